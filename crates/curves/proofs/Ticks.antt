-- The ticks of branches 2, 3, 4 and 7 are less than one from the exact product, value times exponential less one.
use mathlib.Core.Path.{◌≡◌, sym, ap, ap₂, ◌∙◌}
use mathlib.Core.Logic.{◌⊎◌, inl, inr}
use Prim.Native.Nat.{ℕ, ◌+◌, ◌*◌, ◌/◌, ◌%◌, ◌<◌, ◌≤◌}
use native.Mathlib.Nat.{div-add-mod', mod-lt, mul-lt-mul_of_pos_right, mul-pos}
use native.Mathlib.Omega.{arith}
use lib.Pow.{pow_pos}
use lib.IntN.{ℤ, pos, nat_abs, sub_ℕ, ◌+ℤ◌, ◌-ℤ◌, ◌*ℤ◌, *ℤ_comm}
use Rattle.whole.specs.Scale.{floor_scale}
use Rattle.whole.specs.laws.Biased.{below_or_not, sub_up, sub_down, sub_add}
use Rattle.card.specs.declared.WorkedCard.{WorkedCard}
use Rattle.scaling.specs.Scaled.{Scaled, exp_of, times, tick_places, whole_ticks}
use Rattle.terms.specs.Rows.{Role, Row}
use Rattle.terms.specs.Values.{value_of, octave_for}
use Rattle.rows.specs.Ticks.{row_ticks}
use Rattle.curves.specs.Diode.{Diode}
use Rattle.curves.specs.Fraction.{raised, lowered, top, bottom, in_ticks, WithinOne}
use Rattle.curves.proofs.Signs.{sub_turned, sub_times}
use Rattle.curves.proofs.Powers.{scale_times, scale_is, parted}
use Rattle.curves.proofs.Rises.{last_two}
use Rattle.curves.proofs.Downhill.{ticks_by_shape}

-- T of a value, and of its product, as floors of fractions
alone_is : (x : Scaled) → whole_ticks x ≡ top (in_ticks x) / bottom (in_ticks x)
alone_is x =
    let e = x.power +ℤ pos tick_places in
    ap (floor_scale x.digits) (sym (parted e)) ∙ scale_is x.digits (raised e) (lowered e)

product_is : (x g : Scaled) →
    whole_ticks (times x g) ≡ top (in_ticks x) * top g / (bottom (in_ticks x) * bottom g)
product_is x g =
    ap (floor_scale (x.digits * g.digits)) (last_two x.power g.power (pos tick_places))
    ∙ scale_times x.digits g.digits (x.power +ℤ pos tick_places) g.power

-- two differences that are near, crosswise
difference_near : (a b p : ℕ) → a < b + p → b < a + p → nat_abs (sub_ℕ a b) < p
difference_near a b p h k = split (below_or_not a b)
  where
    split : (a < b) ⊎ (b ≤ a) → nat_abs (sub_ℕ a b) < p
    split (inl l) = rw (sub_down a b l) (omega arith)
    split (inr l) = rw (sub_up a b l) (omega arith)

-- the floors of a * m / (b * n) and of a / b, for whole numbers
module _ (a b m n : ℕ) (pb : 0 < b) (pn : 0 < n) where
  floors_near : nat_abs (sub_ℕ (a * m / (b * n)) (a / b) *ℤ pos (b * n) -ℤ pos a *ℤ sub_ℕ m n) < b * n
  floors_near =
      let t = a * m / (b * n) in
      let u = a / b in
      let p = b * n in
      let e : sub_ℕ t u *ℤ pos p -ℤ pos a *ℤ sub_ℕ m n ≡ sub_ℕ (t * p + n * a) (u * p + m * a) =
      ap₂ (λ (y z : ℤ). y -ℤ z) (sub_times t u p) (*ℤ_comm (pos a) (sub_ℕ m n) ∙ sub_times m n a)
      ∙ ap (λ (z : ℤ). sub_ℕ (t * p) (u * p) +ℤ z) (sub_turned (m * a) (n * a))
      ∙ sub_add (t * p) (u * p) (n * a) (m * a) in
      let f = div-add-mod' (a * m) p in
      let g = ap (λ (y : ℕ). y * n) (div-add-mod' a b) in
      let r : a * m % p < p = mod-lt (a * m) (mul-pos pb pn) in
      let s = mul-lt-mul_of_pos_right {k = n} (mod-lt a pb) pn in
      rw e (difference_near (t * p + n * a) (u * p + m * a) p (omega arith) (omega arith))

module _ {r : Row} (d : Diode r) (c : WorkedCard) (v : Role → Role → ℤ) where
  pub within_a_tick : WithinOne (row_ticks c v r) (in_ticks (value_of c d.value))
      (exp_of (v r.from r.to) (octave_for c d.span))
  within_a_tick =
      let x = value_of c d.value in
      let g = exp_of (v r.from r.to) (octave_for c d.span) in
      let e = ticks_by_shape d c v ∙ ap₂ sub_ℕ (product_is x g) (alone_is x) in
      record {
        near =
            rw e (floors_near (top (in_ticks x)) (bottom (in_ticks x)) (top g) (bottom g) (pow_pos _) (pow_pos _));
      }
