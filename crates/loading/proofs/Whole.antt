-- The whole part of a float above zero, by the fraction that it is.
use mathlib.Core.Path.{◌≡◌, refl, sym, subst}
use mathlib.Core.Bool.{true, false}
use Prim.Native.Nat.{ℕ, suc, ◌+◌, ◌-◌, ◌*◌, ◌/◌, ◌^◌, ◌≤◌, ◌<◌, min}
use native.Mathlib.Nat.{div-lt_iff_lt-mul, le-div_iff_mul-le}
use native.Mathlib.Omega.{arith}
use lib.Dec.{T, lt→ltb}
use lib.IntN.{pos}
use lib.Ieee.{Float, nan, inf, fin, binary64, lt, of_bits, up, down, to_unsigned}
use lib.Ieee.Fits.{down_pos}
use lib.Ieee.Positive.{positive, above, num, den, den_pos}
use lib.Ieee.Scale.{finite}
use borrow.Author.Tests.{ltb-true, ltb-false, lt-leb, le-leb}
use Rattle.loading.specs.Octave.{second_most, whole_part, second_good}

part : ℕ → ℕ → ℕ
part n d = min (n / d) (2 ^ 64 - 1)

part_least : (k n d : ℕ) → 0 < d → k < 2 ^ 64 → k * d ≤ n → k ≤ part n d
unfolding part
part_least k n d h s l = let q = (le-div_iff_mul-le {k = d} {x = k} {y = n} h).1 l in omega arith

part_most : (k n d : ℕ) → 0 < d → n < suc k * d → part n d ≤ k
unfolding part
part_most k n d h l = let q = (div-lt_iff_lt-mul {k = d} {x = n} {y = suc k} h).1 l in omega arith

is_part : (y : Float) → T (positive y) → whole_part y ≡ part (num y) (den y)
unfolding to_unsigned part
is_part nan p = absurd p
is_part (inf s) p = absurd p
is_part (fin true m e) p = absurd p
is_part (fin false m e) p = refl

module _ (y : Float) (p : T (positive y)) (k : ℕ) where
  pub whole_least : k < 2 ^ 64 → k * den y ≤ num y → k ≤ whole_part y
  whole_least s l = rw (is_part y p) (part_least k (num y) (den y) (den_pos y) s l)

  pub whole_most : num y < suc k * den y → whole_part y ≤ k
  whole_most l = rw (is_part y p) (part_most k (num y) (den y) (den_pos y) l)

-- a float above zero is one that can be cut to a whole number, if it is not too large
pub over_minus_one : (y : Float) → T (above y) → T (lt (fin true 1 (pos 0)) y)
unfolding lt
over_minus_one nan a = absurd a
over_minus_one (inf true) a = absurd a
over_minus_one (inf false) a = tt
over_minus_one (fin true m e) a = absurd a
over_minus_one (fin false m e) a = let d = down_pos e in lt→ltb 0 (1 * down e + m * up e * 1) (omega arith)

pub below_top : (y : Float) → T (positive y) → num y < 2 ^ 64 * den y → T (lt y (fin false 1 (pos 64)))
unfolding lt
below_top nan p h = absurd p
below_top (inf s) p h = absurd p
below_top (fin true m e) p h = absurd p
below_top (fin false m e) p h = lt→ltb (m * up e * 1) (2 ^ 64 * down e) (omega arith)

pub positive_of : (y : Float) → T (above y) → T (finite y) → T (positive y)
positive_of nan a f = absurd a
positive_of (inf s) a f = absurd f
positive_of (fin true m e) a f = absurd a
positive_of (fin false m e) a f = a

-- ---- below the least second octave that is too large, or not
pub record Below (y : Float) : Type 0 where
  pub number : T (positive y)
  pub range : T (lt y (fin false 1 (pos 64)))
  pub good : second_good y ≡ true
  pub most : whole_part y ≤ second_most

-- it as the code writes it
abbrev second_over_lem : Float
second_over_lem = of_bits binary64 0x41cd_cd65_0080_0000

limit_is : second_over_lem ≡ fin false (suc second_most) (pos 0)
unfolding of_bits
limit_is = refl

crossed : (y : Float) → T (above y) → lt y (fin false (suc second_most) (pos 0)) ≡ true
    → T (positive y) × (num y < suc second_most * den y)
unfolding lt
crossed nan a h = absurd a
crossed (inf true) a h = absurd a
crossed (inf false) a h = absurd (subst T (sym h) tt)
crossed (fin true m e) a h = absurd a
crossed (fin false m e) a h = let l = ltb-true (m * up e * 1) (suc second_most * down e) h in (a, omega arith)

finite_of : (y : Float) → T (positive y) → finite y ≡ true
finite_of nan p = absurd p
finite_of (inf s) p = absurd p
finite_of (fin s m e) p = refl

pub below : (y : Float) → T (above y) → lt y second_over_lem ≡ true → Below y
below y a h =
    let c = crossed y a (subst (λ (k : Float). lt y k ≡ true) limit_is h) in
    let p = c.0 in
    let l = c.1 in
    let m = whole_most y p second_most l in
    let d = den_pos y in record {
      number = p;
      range = below_top y p (omega arith);
      good = rw (finite_of y p) (le-leb (whole_part y) second_most m);
      most = m;
    }

not_crossed : (y : Float) → T (above y) → lt y (fin false (suc second_most) (pos 0)) ≡ false → second_good y ≡ false
unfolding lt
not_crossed nan a h = absurd a
not_crossed (inf true) a h = absurd a
not_crossed (inf false) a h = refl
not_crossed (fin true m e) a h = absurd a
not_crossed (fin false m e) a h =
    let l = ltb-false (m * up e * 1) (suc second_most * down e) h in
    let k : suc second_most * down e ≤ m * up e = omega arith in
    lt-leb (whole_part (fin false m e)) second_most (whole_least (fin false m e) a (suc second_most) (omega arith) k)

pub not_below : (y : Float) → T (above y) → lt y second_over_lem ≡ false → second_good y ≡ false
not_below y a h = not_crossed y a (subst (λ (k : Float). lt y k ≡ false) limit_is h)
