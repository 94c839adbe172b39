-- A guess whose square is near enough to x is the root of x, or one above it.
use mathlib.Core.Path.{◌≡◌, ◌∙◌}
use Prim.Native.Nat.{ℕ, zero, suc, ◌-◌, ◌*◌, ◌^◌, ◌≤◌, ◌<◌}
use native.Mathlib.Omega.{arith}
use Rattle.roots.specs.Root.{root_of, root_is, root_only}

pub at_root : (x r : ℕ) → x < 2 ^ 64 → r * r ≤ x → x - r * r ≤ 2 * r → r ≡ root_of x
at_root x r h l g = root_only x r (root_of x) (record { within = l; greatest = omega arith }) (root_is x h)

pub one_above : (x r : ℕ) → x < 2 ^ 64 → x < r * r → r * r - x < 2 * r → r - 1 ≡ root_of x
one_above x zero h l g = absurd (omega arith)
one_above x (suc p) h l g =
    let e : suc p - 1 ≡ p = omega arith in
    e ∙ root_only x p (root_of x) (record { within = omega arith; greatest = omega arith }) (root_is x h)
