-- The larger and the smaller of two numbers are what the machine's `max` and `min` give.
use Rattle.std.specs.Prelude.{◌≡◌, refl, ℕ, Bool, true, false, cond, max, min}
use Rattle.std.proofs.Common.{ltb, ltb-true, ltb-false, arith}
use Rattle.given.specs.Lists.{larger, smaller}

pub max_larger : (m n : ℕ) → max m n ≡ larger m n
max_larger m n = go (ltb m n) refl
  where
    go : (t : Bool) → ltb m n ≡ t → max m n ≡ cond t n m
    go true e = let l = ltb-true m n e in omega arith
    go false e = let l = ltb-false m n e in omega arith

pub min_smaller : (m n : ℕ) → min m n ≡ smaller m n
min_smaller m n = go (ltb m n) refl
  where
    go : (t : Bool) → ltb m n ≡ t → min m n ≡ cond t m n
    go true e = let l = ltb-true m n e in omega arith
    go false e = let l = ltb-false m n e in omega arith
