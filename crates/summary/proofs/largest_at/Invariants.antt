-- `largest_at` has passed the branches from k on.
use Rattle.summary.proofs.Ends.{From}
use Rattle.summary.proofs.largest_at.Given as goal

abbrev pub invariant-loop-k : goal.invariant-loop-k
invariant-loop-k l = From l.n l.on l.own l.k l.most
