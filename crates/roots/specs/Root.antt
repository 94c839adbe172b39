-- The whole square root: the greatest R with R * R <= x.
use Rattle.std.specs.Prelude.{◌≡◌, refl, Bool, true, false, cond, ℕ, zero, suc, ◌+◌, ◌*◌, ◌^◌, ◌≤◌, ◌<◌, leb}
use Rattle.std.proofs.Common.{subst, pow-suc, mul-le-mul, arith, leb-true, leb-false}
use Rattle.std.proofs.Math.Decide.{dec_lt}

-- what is meant
pub record IsRoot (x r : ℕ) : Type 0 where
  pub within : r * r ≤ x
  pub greatest : x < (r + 1) * (r + 1)

-- t with the best k lower bits beside it: each bit is set where the square stays within x
unfoldable pub root_bits : ℕ → ℕ → ℕ → ℕ
root_bits zero x t = t
root_bits (suc k) x t = root_bits k x (cond (leb ((t + 2 ^ k) * (t + 2 ^ k)) x) (t + 2 ^ k) t)

-- all 32 bits of the root of a number below 2^64
unfoldable pub root_of : ℕ → ℕ
unfolding root_bits
root_of x = root_bits 32 x 0

-- a root between t and t + 2^k is the one found
found : (k x t : ℕ) → t * t ≤ x → x < (t + 2 ^ k) * (t + 2 ^ k) → IsRoot x (root_bits k x t)
unfolding root_bits
found zero x t l h = record { within = l; greatest = h }
found (suc k) x t l h = judge (leb (u * u) x) refl (found k x u) (found k x t)
  where
    u : ℕ
    u = t + 2 ^ k

    doubled : t + 2 ^ suc k ≡ u + 2 ^ k
    doubled = omega (arith, pow-suc 2 k)

    judge : (b : Bool) → leb (u * u) x ≡ b →
        (u * u ≤ x → x < (u + 2 ^ k) * (u + 2 ^ k) → IsRoot x (root_bits k x u)) →
        (t * t ≤ x → x < u * u → IsRoot x (root_bits k x t)) →
        IsRoot x (root_bits k x (cond b u t))
    judge true e high low = high (leb-true (u * u) x e) (subst (λ (n : ℕ). x < n * n) doubled h)
    judge false e high low = low l (leb-false (u * u) x e)

-- the definition is the greatest
pub root_is : (x : ℕ) → x < 2 ^ 64 → IsRoot x (root_of x)
unfolding root_of
root_is x h = found 32 x 0 (omega arith) (omega arith)

none_above : (x r s : ℕ) → IsRoot x r → IsRoot x s → r < s → ⊥
none_above x r s p q h = let l : r + 1 ≤ s = omega arith in omega (arith, mul-le-mul l l, p, q)

-- and there is no other
pub root_only : (x r s : ℕ) → IsRoot x r → IsRoot x s → r ≡ s
root_only x r s p q = split (dec_lt r s) (dec_lt s r)
  where
    split : Dec (r < s) → Dec (s < r) → r ≡ s
    split (yes h) d = absurd (none_above x r s p q h)
    split (no h) (yes k) = absurd (none_above x s r q p k)
    split (no h) (no k) = omega arith
