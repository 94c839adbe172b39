use Rattle.std.proofs.Common.{length}
use Rattle.trimming.specs.Trimmed.{from_first}
use Rattle.trimming.proofs.Ends.{Same}
use Rattle.trimming.proofs.from_first.Given as goal

abbrev pub invariant-loop-t : goal.invariant-loop-t
invariant-loop-t l = Same from_first l.line l.t

abbrev pub decreases-loop-t : goal.decreases-loop-t
decreases-loop-t l = length l.t
