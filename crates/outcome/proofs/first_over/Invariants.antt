-- None of the rows before the turn's own overloads.
use Rattle.outcome.proofs.Loops.{Looked}
use Rattle.outcome.proofs.first_over.Given as goal

abbrev pub invariant-loop-k : goal.invariant-loop-k
invariant-loop-k l = Looked l.x l.k
