use Rattle.std.proofs.Common.{length}
use Rattle.trimming.specs.Trimmed.{to_last}
use Rattle.trimming.proofs.Ends.{Same}
use Rattle.trimming.proofs.to_last.Given as goal

abbrev pub invariant-loop-t : goal.invariant-loop-t
invariant-loop-t l = Same to_last l.line l.t

abbrev pub decreases-loop-t : goal.decreases-loop-t
decreases-loop-t l = length l.t
