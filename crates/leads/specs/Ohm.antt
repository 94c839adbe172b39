-- A series resistor in the rule's words: the sign of its voltage times the whole ticks of its conductance times the
-- size.
use Rattle.std.specs.Prelude.{ℕ, suc, ◌*◌, ◌^◌, ◌≤◌, ◌<◌, ◌≡◌, ℤ, pos, negsuc, nat_abs, neg_ℤ, ◌+ℤ◌}
use Rattle.card.specs.declared.WorkedCard.{WorkedCard}
use Rattle.scaling.specs.Scaled.{times, whole_number, tick_places, whole_ticks}
use Rattle.terms.specs.Rows.{Value}
use Rattle.terms.specs.Values.{value_of}

-- T(g * |V|)
abbrev pub size_of : WorkedCard → Value → ℤ → ℕ
size_of c g v = whole_ticks (times (value_of c g) (whole_number (nat_abs v)))

-- the sign of V times that
abbrev pub signed : ℤ → ℕ → ℤ
signed (pos n) t = pos t
signed (negsuc n) t = neg_ℤ (pos t)

abbrev pub current_of : WorkedCard → Value → ℤ → ℤ
current_of c g v = signed v (size_of c g v)

-- t ticks are less than one tick away from x * 2^e of them, and never more than that
abbrev pub WithinTick : ℕ → ℤ → ℕ → Type 0
WithinTick x (pos k) t = t ≡ x * 2 ^ k
WithinTick x (negsuc k) t = (t * 2 ^ suc k ≤ x) × (x < suc t * 2 ^ suc k)

-- a * |V| * 2^(b + 50) ticks are the exact product of a conductance a * 2^b with a voltage
abbrev pub Ohms : WorkedCard → Value → ℤ → ℕ → Type 0
Ohms c g v t = WithinTick ((value_of c g).digits * nat_abs v) ((value_of c g).power +ℤ pos 0 +ℤ pos tick_places) t
