-- The first number, from 0 on, that passes a test.
use Rattle.std.specs.Prelude.{Bool, true, false, ℕ, zero, suc, ltb}

-- with n tested after those below it, of which the first is k
abbrev pub or_else : Bool → Bool → ℕ → ℕ → ℕ
or_else true t k n = k
or_else false true k n = n
or_else false false k n = suc n

-- the first below n; n where none passes
unfoldable pub first_below : (ℕ → Bool) → ℕ → ℕ
first_below test zero = 0
first_below test (suc n) = or_else (ltb (first_below test n) n) (test n) (first_below test n) n
