-- The numbers before the turn's own are looked at.
use Rattle.outcome.proofs.Loops.{MostTo}
use Rattle.outcome.proofs.all_digits.Given as goal

abbrev pub invariant-loop-k : goal.invariant-loop-k
invariant-loop-k l = MostTo l.a l.b l.k l.all
