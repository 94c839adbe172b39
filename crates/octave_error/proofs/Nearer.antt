-- The exponential is near the exact one: at the table's points by their rule, at the middle from each to the next by
-- one computed test.
use mathlib.Core.Path.{◌≡◌, sym, subst}
use mathlib.Core.Bool.{Bool, ◌&&◌}
use Prim.Native.Nat.{ℕ, suc, ◌+◌, ◌-◌, ◌*◌, ◌/◌, ◌%◌, ◌^◌, ◌≤◌, ◌<◌}
use native.Mathlib.Nat.{mul-le-mul_left, mul-lt-mul_of_pos_right, lt_of_le_of_lt, pow-lt-pow_left, mul-zero, add-zero}
use native.Mathlib.Omega.{arith}
use lib.Dec.{leb, leb→le}
use lib.Pow.{pow_pos}
use mir.Facts.{and_yes}
use Rattle.octave.specs.Table.{places, points, steps, entries, entry_of, mantissa_of, rule}
use Rattle.whole.specs.laws.Every.{at_each}
use Rattle.octave_error.specs.Near.{million, Near}
use Rattle.octave_error.proofs.Powers.{mul_pow}

-- ---- the points

-- a number whose power is not above the exact one is near from above
not_above : (d k m : ℕ) → 0 < d → m ^ d ≤ 2 ^ (places * d + k) →
    (million * m) ^ d < suc million ^ d * 2 ^ (places * d + k)
not_above d k m p h =
    lt_of_le_of_lt
    (subst (λ (x : ℕ). x ≤ million ^ d * 2 ^ (places * d + k)) (sym (mul_pow million m d))
    (mul-le-mul_left (million ^ d) h))
    (mul-lt-mul_of_pos_right (pow-lt-pow_left (omega arith) (λ (e : d ≡ 0). omega arith)) (pow_pos (places * d + k)))

-- each entry is near
pub points_near : (j : ℕ) → j ≤ points → Near points j (entry_of j)
points_near j h =
    let t = rule j h in
    record { above = not_above points j (entry_of j) (omega arith) t.within; below = t.greatest }

-- and is the mantissa at its point
pub at_point : (j : ℕ) → mantissa_of (steps * j) ≡ entry_of j
at_point j =
    let e : steps * j / steps ≡ j = omega arith in
    let z : steps * j % steps ≡ 0 = omega arith in
    rw (e, z, mul-zero (entry_of (suc j) - entry_of j), add-zero (entry_of j))

-- ---- the middles

-- half way from the point j to the next, in parts of an octave
abbrev pub middle : ℕ → ℕ
middle j = steps * j + steps / 2

above_less : ℕ → ℕ → ℕ → Bool
above_less d k m = leb (suc ((million * m) ^ d)) (suc million ^ d * 2 ^ (places * d + k))

below_less : ℕ → ℕ → ℕ → Bool
below_less d k m = leb (suc (2 ^ (places * d + k))) (suc m ^ d)

at_middle : ℕ → Bool
at_middle j =
    above_less (2 * points) (suc (2 * j)) (mantissa_of (middle j))
    && below_less (2 * points) (suc (2 * j)) (mantissa_of (middle j))

pub middles_near : (j : ℕ) → j < points → Near (2 * points) (suc (2 * j)) (mantissa_of (middle j))
unfolding entries entry_of above_less below_less at_middle
middles_near j h =
    let m = mantissa_of (middle j) in
    let p =
    and_yes (above_less (2 * points) (suc (2 * j)) m) (below_less (2 * points) (suc (2 * j)) m)
    (at_each at_middle points tt j h) in
    record { above = leb→le _ _ p.0; below = leb→le _ _ p.1 }
