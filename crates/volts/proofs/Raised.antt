-- How a voltage is kept: by two tests and one sum of numbers with a sign, w being the voltage as its bits are read.
use mathlib.Core.Path.{◌≡◌, ap, sym, subst}
use mathlib.Core.Logic.{◌⊎◌, inl, inr}
use Prim.Native.Nat.{ℕ, ◌≤◌, ◌<◌}
use native.Mathlib.Omega.{arith}
use lib.IntN.{ℤ, pos, ◌-ℤ◌}
use mir.Syntax.{w32, w64}
use mir.Val.{to_z, Fits, SFits}
use mir.ValLaws.{to_z-of_z}
use Rattle.whole.specs.laws.Biased.{sub_up, sub_down, below_or_not}
use Rattle.volts.specs.Volts.{volts_most, given_back}

module _ {x : ℕ} (h : Fits w32 x) where
  pub up_fits : SFits w64 (pos x)
  up_fits = let f = h.fits in record { sfits = omega arith }

  lowered : to_z w64 x -ℤ pos volts_most ≡ given_back x
  lowered = ap (λ (u : ℤ). u -ℤ pos volts_most) (to_z-of_z w64 (pos x) up_fits)

  given_fits : SFits w64 (given_back x)
  given_fits = go (below_or_not x volts_most)
    where
      go : (x < volts_most) ⊎ (volts_most ≤ x) → SFits w64 (given_back x)
      go (inl l) = rw (sub_down x volts_most l) (record { sfits = omega arith })
      go (inr g) = let f = h.fits in rw (sub_up x volts_most g) (record { sfits = omega arith })

  pub down_fits : SFits w64 (to_z w64 x -ℤ pos volts_most)
  down_fits = subst (SFits w64) (sym lowered) given_fits
