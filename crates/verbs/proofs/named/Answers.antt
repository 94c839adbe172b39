-- The table as it is, an entry that has the word, and one that has not.
use Rattle.std.proofs.Common.{refl}
use Rattle.verbs.specs.Table.{row_named}
use Rattle.verbs.proofs.Found.{found, passed}
use Rattle.verbs.proofs.named.Goals as goal

pub loop-text-init : goal.loop-text-init
unfolding row_named
loop-text-init c = refl

pub returns-then-eq : goal.returns-then-eq
returns-then-eq c = found _ _ _ c.loop-text-test.true c.loop-text.invariant _ c.eq.ensures c.if-eq.true

pub loop-text-preserved : goal.loop-text-preserved
loop-text-preserved c = passed _ _ _ c.loop-text-test.true c.loop-text.invariant _ c.eq.ensures c.if-eq.false
