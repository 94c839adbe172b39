-- What the square of the number shows to be the root, or one above it.
use Rattle.std.proofs.Common.{◌∙◌, arith}
use Rattle.roots.proofs.Judged.{at_root, one_above}
use Rattle.roots.proofs.root_near.Goals as goal

pub returns-then-x-q : goal.returns-then-x-q
returns-then-x-q c = at_root _ _ (omega arith) c.if-q-x.true c.if-x-q.true

pub returns-then-q-x-2 : goal.returns-then-q-x-2
returns-then-q-x-2 c = one_above _ _ (omega arith) c.if-x-q-2.true c.if-q-x-2.true
