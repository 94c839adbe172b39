-- What `first_below` gives: a number that passes, where it is below the end, and none before it does.
use Rattle.std.specs.Prelude.{◌≡◌, refl, ◌⊎◌, Bool, true, false, ℕ, zero, suc, ◌≤◌, ◌<◌, ltb}
use Rattle.std.proofs.Common.{sym, subst, inl, inr, le_refl, eq-or-lt_of_le, le_of_suc-le-suc, arith, ltb-true, ltb-false}
use Rattle.shortest.specs.First.{or_else, first_below}

-- a number below n that passes, or none of them does
record First (test : ℕ → Bool) (n k : ℕ) : Type 0 where
  most : k ≤ n
  passes : k < n → test k ≡ true
  before : (j : ℕ) → j < k → test j ≡ false

step : (test : ℕ → Bool) (n k : ℕ) (s t : Bool) → ltb k n ≡ s → test n ≡ t → First test n k
    → First test (suc n) (or_else s t k n)
step test n k true t e f v =
    let l = ltb-true k n e in record { most = omega arith; passes = λ h. v.passes l; before = v.before }
step test n k false true e f v =
    let l = ltb-false k n e in
    let m = v.most in
    let z : k ≡ n = omega arith in
    record { most = omega arith; passes = λ h. f; before = λ j h. v.before j (omega arith) }
step test n k false false e f v = record {
  most = le_refl (suc n);
  passes = λ h. absurd (omega arith);
  before = λ j h. at j (eq-or-lt_of_le (le_of_suc-le-suc h));
}
  where
    at : (j : ℕ) → (j ≡ n) ⊎ (j < n) → test j ≡ false
    at j (inl z) = subst (λ (i : ℕ). test i ≡ false) (sym z) f
    at j (inr h) =
        let l = ltb-false k n e in
        v.before j (omega arith)

first_is : (test : ℕ → Bool) (n : ℕ) → First test n (first_below test n)
unfolding first_below
first_is test zero = record {
  most = le_refl 0;
  passes = λ h. absurd (omega arith);
  before = λ j h. absurd (omega arith);
}
first_is test (suc n) =
    step test n (first_below test n) (ltb (first_below test n) n) (test n) refl refl (first_is test n)

module _ (test : ℕ → Bool) (n : ℕ) where
  pub first_passes : first_below test n < n → test (first_below test n) ≡ true
  first_passes h = (first_is test n).passes h

  pub first_before : (j : ℕ) → j < first_below test n → test j ≡ false
  first_before j h = (first_is test n).before j h
