-- The digits of both are at least either.
use Prim.Native.Nat.{ℕ, ◌≤◌}
use native.Mathlib.Omega.{arith}
use lib.Bits.{bit_or, or_add_and, and_le_l, and_le_r}
use Rattle.outcome.proofs.digits.Goals as goal

both_below : (a b : ℕ) → (a ≤ bit_or a b) × (b ≤ bit_or a b)
both_below a b =
    let e = or_add_and a b in
    let l = and_le_l a b in
    let r = and_le_r a b in
    (omega arith, omega arith)

pub returns : goal.returns
returns c = both_below _ _
