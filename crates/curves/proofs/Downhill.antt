-- The branches 2, 3, 4 and 7, proved once over their shape: never downhill, nothing at zero, the sign of the voltage.
use mathlib.Core.Path.{◌≡◌, refl, ap, subst, ◌∙◌}
use Prim.Native.Nat.{ℕ}
use native.Mathlib.Nat.{sub_self, le_refl}
use lib.IntN.{ℤ, pos}
use lib.Signed.{◌≤ℤ◌}
use Rattle.whole.specs.laws.Biased.{sub_up}
use Rattle.card.specs.declared.WorkedCard.{WorkedCard}
use Rattle.scaling.specs.Scaled.{whole_ticks}
use Rattle.terms.specs.Rows.{Role, bulk, side, nonideal, sf, plain, second, Row}
use Rattle.terms.specs.Values.{value_of, octave_for}
use Rattle.rows.specs.Ticks.{row_ticks}
use Rattle.curves.specs.Diode.{diode, Diode, DiodeAt, two, three, four, seven}
use Rattle.curves.proofs.Order.{difference_rises}
use Rattle.curves.proofs.Rises.{ticks_rise, ticks_at_zero}

-- the four branches have the shape
pub shape : {k : ℕ} {r : Row} → DiodeAt k r → Diode r
shape two = record { value = bulk; span = plain; is = refl }
shape three = record { value = side; span = plain; is = refl }
shape four = record { value = nonideal; span = second; is = refl }
shape seven = record { value = sf; span = plain; is = refl }

module _ {r : Row} (d : Diode r) (c : WorkedCard) where
  -- the row's ticks by its shape
  pub ticks_by_shape : (v : Role → Role → ℤ) →
      row_ticks c v r ≡ row_ticks c v (diode d.value d.span r.from r.to)
  ticks_by_shape v = ap (row_ticks c v) d.is

  -- a voltage no lower across the junction has a current no smaller, whatever the other voltages are
  pub never_downhill : (v w : Role → Role → ℤ) → v r.from r.to ≤ℤ w r.from r.to →
      row_ticks c v r ≤ℤ row_ticks c w r
  never_downhill v w h =
      let x = value_of c d.value in
      let o = octave_for c d.span in
      rw (ticks_by_shape v, ticks_by_shape w)
      (difference_rises (whole_ticks x) _ _ (ticks_rise x o (v r.from r.to) (w r.from r.to) h))

  -- zero volts across it give exactly 0
  pub nothing_at_zero : (v : Role → Role → ℤ) → v r.from r.to ≡ pos 0 → row_ticks c v r ≡ pos 0
  nothing_at_zero v h =
      let x = value_of c d.value in
      let o = octave_for c d.span in
      ticks_by_shape v ∙ rw (h, ticks_at_zero x o) (sub_up _ _ (le_refl (whole_ticks x)) ∙ ap pos (sub_self _))

  at_rest : Role → Role → ℤ
  at_rest p q = pos 0

  -- no negative current for a positive voltage, and no positive one for a negative
  pub sign_follows : (v : Role → Role → ℤ) →
      (pos 0 ≤ℤ v r.from r.to → pos 0 ≤ℤ row_ticks c v r)
      × (v r.from r.to ≤ℤ pos 0 → row_ticks c v r ≤ℤ pos 0)
  unfolding at_rest
  sign_follows v =
      let z = nothing_at_zero at_rest refl in (
        (λ h. subst (λ (y : ℤ). y ≤ℤ row_ticks c v r) z (never_downhill at_rest v h)),
        (λ h. subst (λ (y : ℤ). row_ticks c v r ≤ℤ y) z (never_downhill v at_rest h)),
      )
