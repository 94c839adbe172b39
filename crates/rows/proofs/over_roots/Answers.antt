-- `over_roots` meets its contract: nothing to divide, or the quotient.
use mathlib.Core.Path.{◌≡◌, ap, ap₂, sym, subst, ◌∙◌}
use Prim.Native.Nat.{ℕ, suc, ◌+◌}
use native.Mathlib.Omega.{arith}
use lib.IntN.{sub_ℕ}
use mir.Syntax.{w64}
use mir.ValLaws.{to_z-of_z}
use Rattle.quotients.specs.Quotient.{held_size, quotient_of}
use Rattle.rows.specs.Ticks.{root_for}
use Rattle.rows.specs.Outcome.{tick_limit}
use Rattle.rows.proofs.Roots.{DivisorSize, two_roots, divided_equal, divided_held}
use borrow.Author.Rules.{rules}
use Rattle.rows.proofs.over_roots.Goals as goal
use Rattle.rows.proofs.over_roots.Goals.{After-root_for-2}

divisor_is : (c : After-root_for-2) →
    c.root_for.result + c.root_for-2.result ≡ root_for c.args.left + root_for c.args.right
divisor_is c = ap₂ ◌+◌ c.root_for.ensures c.root_for-2.ensures

pub returns-then-plus-minus : goal.returns-then-plus-minus
returns-then-plus-minus c = divided_equal _ _ c.args.left c.args.right c.if-plus-minus.true

divisor_sized : (c : After-root_for-2) → DivisorSize (c.root_for.result + c.root_for-2.result)
divisor_sized c =
    let p = c.requires.1.1 in
    subst DivisorSize (sym (divisor_is c)) (two_roots _ _ p.0 p.1)

pub overflow_add-divisor : goal.overflow_add-divisor
overflow_add-divisor c = omega (arith, divisor_sized (goal.at.overflow_add-divisor c).After-root_for-2)

pub quotient-requires : goal.quotient-requires
quotient-requires c =
    let p = c.requires in
    let d = divisor_sized (goal.at.quotient-requires c).After-root_for-2 in
    record {
      first_small = omega (arith, p.0);
      second_small = omega (arith, p.1.0);
      divisor =
          record {
            shift_small = omega arith;
            divisor_there = omega (arith, d.least);
            divisor_small = omega (arith, d.most);
          };
      limit_small = omega arith;
    }

pub returns : goal.returns
returns c =
    let r = (goal.at.returns c).After-root_for-2 in
    let a = c.args in
    let p = c.requires in
    let n = sub_ℕ a.plus a.minus in
    to_z-of_z w64 c.quotient.result (search rules) ∙ c.quotient.ensures
    ∙ ap (λ (d : ℕ). held_size (suc tick_limit) (quotient_of n 21 d)) (divisor_is r)
    ∙ divided_held _ _ _ _ p.0 p.1.0 p.1.1.0 p.1.1.1
