-- `near` ends without an overflow; nothing is promised of what it gives.
use Prim.Native.Nat.{◌≤◌, ◌%◌}
use native.Mathlib.Nat.{mul-le-mul}
use native.Mathlib.Omega.{arith}
use Rattle.rows.proofs.near.Goals as goal

pub overflow_mul-result-3 : goal.overflow_mul-result-3
overflow_mul-result-3 c = let l : c.args.ratio % 16384 ≤ 16383 = omega arith in omega (arith, mul-le-mul l l)

pub overflow_sub-result : goal.overflow_sub-result
overflow_sub-result c =
    let n = c.args.ratio % 16384 in
    let l : n ≤ 16383 = omega arith in
    let same : n ≤ n = omega arith in
    omega (arith, mul-le-mul same l)
