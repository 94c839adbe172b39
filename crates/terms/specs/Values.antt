-- From volts to T's, ratios and sums: the numbers that the rows' terms and divisors stand for.
use Rattle.std.specs.Prelude.{Bool, cond, ◌&&◌, List, ℕ, ◌*◌, ltb, get_or, ℤ, pos, negsuc, ◌-ℤ◌}
use Rattle.std.proofs.Math.IntN.{sub_ℕ}
use Rattle.reverse.specs.OfVolts.Volts.{span}
use Rattle.card_laws.specs.OfCard.WorkedCard.{WorkedCard}
use Rattle.reverse.specs.OfScaling.Scaled.{Scaled, value_at, exp_of, times, whole_number, whole_ticks, whole_parts}
use Rattle.reverse.specs.Sum.{sum_parts, over_sum, sum_over}
use Rattle.terms.specs.Rows.{Role, role_index, Value, s_n, bulk, side, nonideal, ex, sub, sf, r_ex, r_sub, reverse}
use Rattle.terms.specs.Rows.{g_e, g_bc, g_cc, g_blx, g_bli, Span, plain, second, Term, alone, across, through}
use Rattle.terms.specs.Rows.{Summand, unit, root}

-- the worked values by their names
abbrev pub value_of : WorkedCard → Value → Scaled
value_of c s_n = value_at c.sn
value_of c bulk = value_at c.bulk
value_of c side = value_at c.side
value_of c nonideal = value_at c.nonideal
value_of c ex = value_at c.ex
value_of c sub = value_at c.sub
value_of c sf = value_at c.sf
value_of c r_ex = value_at c.rex
value_of c r_sub = value_at c.rsub
value_of c reverse = value_at c.reverse
value_of c g_e = value_at c.ge
value_of c g_bc = value_at c.gbc
value_of c g_cc = value_at c.gcc
value_of c g_blx = value_at c.gblx
value_of c g_bli = value_at c.gbli

-- the voltage of a junction: that of its first role less that of its second
abbrev pub bias_of : List ℤ → Role → Role → ℤ
bias_of volts p q = get_or volts (role_index p) (pos 0) -ℤ get_or volts (role_index q) (pos 0)

abbrev pub octave_for : WorkedCard → Span → ℕ
octave_for c plain = c.octave
octave_for c second = c.second

-- how far a voltage is above 0
abbrev pub rise : ℤ → ℕ
rise (pos n) = n
rise (negsuc n) = 0

-- a term's T
abbrev pub tick_of : WorkedCard → (Role → Role → ℤ) → Term → ℕ
tick_of c v (alone x) = whole_ticks (value_of c x)
tick_of c v (across x span p q) = whole_ticks (times (value_of c x) (exp_of (v p q) (octave_for c span)))
tick_of c v (through x p q) = whole_ticks (times (value_of c x) (whole_number (rise (v p q))))

-- floor(r * G(V) * 2^20) for a ratio; 0 for the summand that has none
abbrev pub ratio_of : WorkedCard → (Role → Role → ℤ) → Summand → ℕ
ratio_of c v unit = 0
ratio_of c v (root x p q) = whole_parts (times (value_of c x) (exp_of (v p q) c.octave))

-- ---- the sum of two exponentials, both at the doubled octave

abbrev pub doubled_octave : WorkedCard → ℕ
doubled_octave c = 2 * c.octave

-- V_Lr in microvolts; the card keeps it raised
abbrev pub knee_volts : WorkedCard → ℤ
knee_volts c = sub_ℕ c.knee span

-- Y = floor(2^20 * (G(V) + G(V_Lr)))
abbrev pub sum_at : WorkedCard → (Role → Role → ℤ) → Role → Role → ℕ
sum_at c v p q = sum_parts (exp_of (v p q) (doubled_octave c)) (exp_of (knee_volts c) (doubled_octave c))

-- N * 2^20 / Y; nothing where the value is 0
abbrev pub exps_ticks : WorkedCard → (Role → Role → ℤ) → Value → Role → Role → ℤ → ℤ
exps_ticks c v x p q n = cond (ltb 0 (value_of c x).digits) (over_sum n (sum_at c v p q)) (pos 0)

-- and whether that is too much: nothing is where the value is 0
abbrev pub exps_over : WorkedCard → (Role → Role → ℤ) → Value → Role → Role → ℤ → Bool
exps_over c v x p q n = ltb 0 (value_of c x).digits && sum_over n (sum_at c v p q)
