-- `all_divided` writes the ticks of every row.
use mathlib.Core.Path.{◌≡◌, ◌∙◌}
use native.Mathlib.Omega.{arith}
use mir.Syntax.{w64}
use mir.ValLaws.{to_z-of_z}
use borrow.Author.Rules.{rules}
use Rattle.rows.specs.laws.Filled.{filled_none, filled_more, filled_all}
use Rattle.rows.proofs.all_divided.Goals as goal

pub loop-k-init : goal.loop-k-init
loop-k-init c = filled_none (search rules)

pub divided-t-requires : goal.divided-t-requires
divided-t-requires c =
    let h = c.loop-k-test.true in
    let w = c.requires.at c.loop-k.k (omega arith) in
    (w.plus, (w.minus, (w.left, w.right)))

pub loop-k-preserved : goal.loop-k-preserved
loop-k-preserved c =
    let h = c.loop-k-test.true in
    let e = to_z-of_z w64 c.divided-t.result (search rules) ∙ c.divided-t.ensures in
    filled_more _ (omega arith) e c.loop-k.invariant

pub loop-k-2-init : goal.loop-k-2-init
loop-k-2-init c = let e : c.loop-k.k ≡ 8 = omega arith in rw e at c.loop-k.invariant

pub divided-t-requires-in-loop-k-2 : goal.divided-t-requires-in-loop-k-2
divided-t-requires-in-loop-k-2 c =
    let w = c.requires.at c.loop-k-2.k c.loop-k-2-test.true in (w.plus, (w.minus, (w.left, w.right)))

pub loop-k-2-preserved : goal.loop-k-2-preserved
loop-k-2-preserved c =
    let e = to_z-of_z w64 c.divided-t-in-loop-k-2.result (search rules) ∙ c.divided-t-in-loop-k-2.ensures in
    filled_more _ c.loop-k-2-test.true e c.loop-k-2.invariant

pub returns : goal.returns
returns c = filled_all (omega arith) c.loop-k-2.invariant
