-- `root_for` meets its contract: the root, which is the unit for the floor 0.
use mathlib.Core.Path.{sym}
use Rattle.rows.specs.Ticks.{root_for}
use Rattle.rows.proofs.Roots.{root_unit}
use Rattle.rows.proofs.root_for.Goals as goal

pub returns-then-ratio-eq0 : goal.returns-then-ratio-eq0
returns-then-ratio-eq0 c = rw c.if-ratio-eq0.true (sym root_unit)

pub returns-then-ratio-lt-NEAR : goal.returns-then-ratio-lt-NEAR
unfolding root_for
returns-then-ratio-lt-NEAR c = c.root_near.ensures

pub returns : goal.returns
unfolding root_for
returns c = c.root.ensures
