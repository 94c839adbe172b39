-- The product whose whole part is the second octave is above zero, and at least 1,000,000.
use mathlib.Core.Path.{◌≡◌, refl, subst}
use mathlib.Core.Bool.{true, false}
use mathlib.Core.List.{List}
use lib.Dec.{T}
use lib.IntN.{pos, negsuc}
use lib.Ieee.{Float, fin, binary64, of_bits, le, mul}
use lib.Ieee.Positive.{above, positive, above_of_le, mul_mono}
use Rattle.working.specs.OfClip.Limits.{tenth}
use Rattle.loading.specs.Octave.{ten_million, fifty_million, octave_good}
use Rattle.loading.specs.Numbers.{mlf}
use Rattle.loading.specs.inner.Mlf.{GoodMlf}
use Rattle.loading.proofs.Whole.{positive_of}
use Rattle.loading.proofs.Range.{in_range, from}
use Rattle.loading.proofs.Clipped.{and_true}

tenth_is : tenth ≡ fin false 3602879701896397 (negsuc 54)
unfolding of_bits
tenth_is = refl

million_is : mul binary64 (fin false 3602879701896397 (negsuc 54)) (fin false 78125 (pos 7)) ≡ fin false 15625 (pos 6)
unfolding mul
million_is = refl

module _ (m x : Float) (f : T (positive m)) (l : T (le tenth m)) (g : octave_good x ≡ true) where
  pub product_least : T (le (fin false 15625 (pos 6)) (mul binary64 m x))
  product_least =
      let a = and_true (le ten_million x) _ g in
      let b = and_true (le x fifty_million) _ a.1 in
      subst (λ (k : Float). T (le k (mul binary64 m x))) million_is
      (mul_mono binary64 (fin false 3602879701896397 (negsuc 54)) m (fin false 78125 (pos 7)) x tt f tt
      (in_range x a.0 b.0) (subst (λ (k : Float). T (le k m)) tenth_is l) (from x a.0 b.0))

  pub product_above : T (above (mul binary64 m x))
  product_above = above_of_le (fin false 15625 (pos 6)) (mul binary64 m x) tt product_least

pub mlf_positive : (x : List Float) → GoodMlf x → T (positive (mlf x))
mlf_positive x g =
    let l = subst (λ (k : Float). T (le k (mlf x))) tenth_is g.least in
    positive_of (mlf x) (above_of_le (fin false 3602879701896397 (negsuc 54)) (mlf x) tt l) g.number
