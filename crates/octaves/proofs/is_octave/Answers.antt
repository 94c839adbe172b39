-- In the range the cut number's float has x's bits where x is whole.
use Rattle.std.proofs.Common.{Bool, true, false, ◌≡◌, refl, ℕ, eqb, eqb-true}
use borrow.Author.Tests.{eqb-false}
use lib.Ieee.{Float, binary64, le, whole}
use Rattle.loading.specs.Octave.{octave_good, ten_million, fifty_million}
use Rattle.loading.proofs.Range.{holds, can_cut, no_nan, exact, made_no_nan, is_whole, not_whole}
use Rattle.octaves.proofs.is_octave.Goals as goal

-- two numbers that are equal just where x is whole tell whether it is an octave
told : (x : Float) (p q : ℕ) → le ten_million x ≡ true → le x fifty_million ≡ true → (p ≡ q → whole binary64 x ≡ true)
    → ((p ≡ q → ⊥) → whole binary64 x ≡ false) → eqb p q ≡ octave_good x
told x p q a b y n = go (eqb p q) refl
  where
    go : (t : Bool) → eqb p q ≡ t → eqb p q ≡ octave_good x
    go true e = rw (e, a, b, y (eqb-true p q e))
    go false e = rw (e, a, b, n (eqb-false p q e))

pub truncating_f64_to_u64-n-requires : goal.truncating_f64_to_u64-n-requires
truncating_f64_to_u64-n-requires c =
    let r = can_cut _ c.if-x.true c.if-x-2.true in record { lower_bound = r.0; upper_bound = r.1 }

pub int_to_float-result : goal.int_to_float-result
int_to_float-result c =
    exact _ c.if-x.true c.if-x-2.true (holds c.well_formed.0.1) _ c.truncating_f64_to_u64-n.ensures

pub float_to_bits-result : goal.float_to_bits-result
float_to_bits-result c =
    made_no_nan _ c.if-x.true c.if-x-2.true (holds c.well_formed.0.1) _ c.truncating_f64_to_u64-n.ensures

pub float_to_bits-result-then-x-2 : goal.float_to_bits-result-then-x-2
float_to_bits-result-then-x-2 c = no_nan _ c.if-x.true c.if-x-2.true

pub returns-then-x-2 : goal.returns-then-x-2
returns-then-x-2 c =
    let f = holds c.well_formed.0.1 in
    let n = c.truncating_f64_to_u64-n.ensures in
    told _ _ _ c.if-x.true c.if-x-2.true (is_whole _ c.if-x.true c.if-x-2.true f _ n)
    (not_whole _ c.if-x.true c.if-x-2.true f _ n)
