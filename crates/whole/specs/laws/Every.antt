-- A test that computes at each number below n, and the law that carries it to any one of them.
use Rattle.std.specs.Prelude.{◌≡◌, Bool, true, ◌&&◌, ℕ, zero, suc, ◌<◌, T}
use Rattle.std.proofs.Common.{subst, sym, le_of_suc-le-suc, not-suc-le-zero}
use Rattle.std.proofs.Math.Decide.{ℕ_discrete}
use Rattle.std.proofs.Math.Arith.{lt_of_le-ne}
use Rattle.std.proofs.Math.Facts.{and_yes}

-- the test holds at n - 1, .., 1, 0
abbrev pub every : (ℕ → Bool) → ℕ → Bool
every test zero = true
every test (suc n) = test n && every test n

pub at_each : (test : ℕ → Bool) (n : ℕ) → T (every test n) → (k : ℕ) → k < n → T (test k)
at_each test zero t k h = absurd (not-suc-le-zero h)
at_each test (suc n) t k h = here (ℕ_discrete k n) (at_each test n (and_yes (test n) (every test n) t).1 k)
  where
    here : Dec (k ≡ n) → (k < n → T (test k)) → T (test k)
    here (yes e) below = subst (λ (m : ℕ). T (test m)) (sym e) (and_yes (test n) (every test n) t).0
    here (no d) below = below (lt_of_le-ne (le_of_suc-le-suc h) d)
