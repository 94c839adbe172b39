-- The digits of the numbers of either list before the turn's own are taken.
use Rattle.small.proofs.Small.{SmallTo}
use Rattle.small.proofs.digits_of_both.Given as goal

abbrev pub invariant-loop-k : goal.invariant-loop-k
invariant-loop-k l = SmallTo l.coming l.digits l.k × SmallTo l.going l.digits l.k
