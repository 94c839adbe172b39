-- A series resistor's row is the rule's own words, turns about when its ends do, and keeps Ohm's law to the tick.
use mathlib.Core.Path.{◌≡◌, refl, ap, ◌∙◌, subst, sym}
use mathlib.Core.Bool.{false, ◌||◌, or-false}
use mathlib.Core.Logic.{◌⊎◌, inl, inr}
use Prim.Native.Nat.{ℕ, zero, suc, ◌-◌, ◌^◌, ◌≤◌, ◌<◌}
use native.Mathlib.Nat.{div-mul-le_self, lt-div-mul-add, one-le-pow, suc-mul, mul-zero}
use native.Mathlib.Omega.{arith}
use lib.Dec.{ltb, lit<}
use lib.IntN.{ℤ, pos, negsuc, nat_abs, neg_ℤ, sub_ℕ, ◌+ℤ◌}
use Rattle.whole.specs.Scale.{floor_scale}
use Rattle.whole.specs.laws.Biased.{sub_up, sub_down, below_or_not, turned, sub_from_zero}
use Rattle.card.specs.declared.WorkedCard.{WorkedCard}
use Rattle.scaling.specs.Scaled.{Scaled, times, whole_number, tick_places, whole_ticks, tick_limit}
use Rattle.terms.specs.Rows.{Role, Value, through, undivided, resistor}
use Rattle.terms.specs.Values.{value_of, rise, tick_of}
use Rattle.terms.proofs.Eighth.{nothing}
use Rattle.rows.specs.Ticks.{row_ticks}
use Rattle.rows.specs.Outcome.{over_ticks}
use Rattle.leads.specs.Ohm.{size_of, signed, current_of, WithinTick, Ohms}

-- ---- no voltage, no ticks

none_of : (x : Scaled) → whole_ticks (times x (whole_number 0)) ≡ 0
none_of x =
    ap (λ (n : ℕ). floor_scale n (x.power +ℤ pos 0 +ℤ pos tick_places)) (mul-zero x.digits)
    ∙ nothing (x.power +ℤ pos 0 +ℤ pos tick_places)

no_rise : (n : ℕ) → rise (neg_ℤ (pos n)) ≡ 0
no_rise zero = refl
no_rise (suc n) = refl

-- ---- floors, and sizes

floor_near : (x : ℕ) (e : ℤ) → WithinTick x e (floor_scale x e)
floor_near x (pos k) = refl
floor_near x (negsuc k) = (
  div-mul-le_self x (2 ^ suc k),
  rw suc-mul (lt-div-mul-add {a = x} {b = 2 ^ suc k} (one-le-pow (suc k) 2 (lit< tt))),
)

size_signed : (z : ℤ) (t : ℕ) → nat_abs (signed z t) ≡ t
size_signed (pos n) t = refl
size_signed (negsuc n) zero = refl
size_signed (negsuc n) (suc t) = refl

-- ---- the sign of V times T(g * |V|)

module _ (c : WorkedCard) (v : Role → Role → ℤ) (g : Value) (p q : Role) (back : v q p ≡ neg_ℤ (v p q)) where
  abbrev ticks : ℤ → ℕ
  ticks z = whole_ticks (times (value_of c g) (whole_number (rise z)))

  -- from the voltage there to the voltage back
  difference : (z : ℤ) → sub_ℕ (ticks z) (ticks (neg_ℤ z)) ≡ current_of c g z
  difference (pos n) =
      let none : ticks (neg_ℤ (pos n)) ≡ 0 = ap (λ (k : ℕ). whole_ticks (times (value_of c g) (whole_number k))) (no_rise n)
      ∙ none_of (value_of c g) in
      ap (sub_ℕ (ticks (pos n))) none ∙ sub_up (ticks (pos n)) 0 (omega arith) ∙ ap pos (omega arith)
  difference (negsuc n) =
      ap (λ (k : ℕ). sub_ℕ k (ticks (pos (suc n)))) (none_of (value_of c g)) ∙ sub_from_zero (ticks (pos (suc n)))

  pub resistor_is : row_ticks c v (resistor g p q) ≡ current_of c g (v p q)
  resistor_is = ap (λ (z : ℤ). sub_ℕ (ticks (v p q)) (ticks z)) back ∙ difference (v p q)

  -- and it overloads where that T does
  judged : (z : ℤ) → ltb tick_limit (ticks z) || (ltb tick_limit (ticks (neg_ℤ z)) || false) ≡ ltb tick_limit (size_of c g z)
  judged (pos n) =
      let none : ticks (neg_ℤ (pos n)) ≡ 0 = ap (λ (k : ℕ). whole_ticks (times (value_of c g) (whole_number k))) (no_rise n)
      ∙ none_of (value_of c g) in
      ap (λ (k : ℕ). ltb tick_limit (ticks (pos n)) || (ltb tick_limit k || false)) none
      ∙ or-false (ltb tick_limit (ticks (pos n)))
  judged (negsuc n) =
      ap (λ (k : ℕ). ltb tick_limit k || (ltb tick_limit (ticks (pos (suc n))) || false)) (none_of (value_of c g))
      ∙ or-false (ltb tick_limit (ticks (pos (suc n))))

  pub resistor_over : over_ticks c v (resistor g p q) undivided ≡ ltb tick_limit (size_of c g (v p q))
  resistor_over =
      ap (λ (z : ℤ). ltb tick_limit (ticks (v p q)) || (ltb tick_limit (ticks z) || false)) back ∙ judged (v p q)

  -- Ohm's law: the ticks are less than one away from the exact product
  pub ohms_law : Ohms c g (v p q) (nat_abs (row_ticks c v (resistor g p q)))
  ohms_law =
      subst (Ohms c g (v p q)) (sym (ap nat_abs resistor_is ∙ size_signed (v p q) (size_of c g (v p q))))
      (floor_near _ ((value_of c g).power +ℤ pos 0 +ℤ pos tick_places))

-- ---- turned about

no_sign : (n : ℕ) → n ≤ 0 → pos n ≡ neg_ℤ (pos n)
no_sign zero h = refl
no_sign (suc n) h = absurd (omega arith)

sub_turned : (a b : ℕ) → sub_ℕ b a ≡ neg_ℤ (sub_ℕ a b)
sub_turned a b = go (below_or_not a b) (below_or_not b a)
  where
    go : (a < b) ⊎ (b ≤ a) → (b < a) ⊎ (a ≤ b) → sub_ℕ b a ≡ neg_ℤ (sub_ℕ a b)
    go (inl h) k = sub_up b a (omega arith) ∙ ap pos (omega arith) ∙ ap neg_ℤ (sym (sub_down a b h))
    go (inr h) (inl k) =
        sub_down b a k ∙ ap negsuc (omega arith) ∙ sym (turned (a - b) (omega arith)) ∙ ap neg_ℤ (sym (sub_up a b h))
    go (inr h) (inr k) = let e : a ≡ b = omega arith in rw (e, sub_up b b (omega arith)) (no_sign (b - b) (omega arith))

module _ (c : WorkedCard) (v : Role → Role → ℤ) (g : Value) (p q : Role) where
  -- its two ends exchanged
  pub ends_exchanged : row_ticks c v (resistor g q p) ≡ neg_ℤ (row_ticks c v (resistor g p q))
  ends_exchanged = sub_turned (tick_of c v (through g p q)) (tick_of c v (through g q p))

  -- and the voltages of its two ends
  pub volts_exchanged : (w : Role → Role → ℤ) → w p q ≡ v q p → w q p ≡ v p q →
      row_ticks c w (resistor g p q) ≡ neg_ℤ (row_ticks c v (resistor g p q))
  volts_exchanged w there back = rw (there, back) (sub_turned (tick_of c v (through g p q)) (tick_of c v (through g q p)))
