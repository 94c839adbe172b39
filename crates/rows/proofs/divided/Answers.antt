-- `divided` meets its contract: the quotient where a floor is above 0, else the difference.
use mathlib.Core.Path.{◌∙◌}
use native.Mathlib.Omega.{arith}
use mir.Syntax.{w64}
use mir.ValLaws.{to_z-of_z}
use Rattle.rows.proofs.Roots.{divided_unit}
use borrow.Author.Rules.{rules}
use Rattle.rows.proofs.divided.Goals as goal

pub returns-then-left-gt0 : goal.returns-then-left-gt0
returns-then-left-gt0 c = to_z-of_z w64 c.over_roots.result (search rules) ∙ c.over_roots.ensures

pub returns-then-right-gt0 : goal.returns-then-right-gt0
returns-then-right-gt0 c = to_z-of_z w64 c.over_roots-then-right-gt0.result (search rules) ∙ c.over_roots-then-right-gt0.ensures

pub returns : goal.returns
returns c =
    let a = c.args in
    to_z-of_z w64 c.difference.result (search rules) ∙ c.difference.ensures
    ∙ divided_unit a.plus a.minus a.left a.right (omega (arith, c.if-left-gt0.false))
    (omega (arith, c.if-right-gt0.false))
