-- `copying::copy` meets its contract: the buffer holds the bytes passed at its start, and its own after them.
use mathlib.Core.Path.{refl}
use Rattle.name.proofs.Laws.{fill_first, fill_more, fill_all}
use Rattle.copying.proofs.copy.Goals as goal

pub loop-i-init : goal.loop-i-init
loop-i-init c = fill_first c.requires

pub loop-i-preserved : goal.loop-i-preserved
loop-i-preserved c = fill_more c.loop-i.invariant _ c.loop-i-test.true refl

pub returns : goal.returns
returns c = fill_all c.loop-i.invariant c.loop-i-test.false
