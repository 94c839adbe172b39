-- The digits of the numbers before the turn's own are taken.
use Rattle.small.proofs.Small.{SmallTo}
use Rattle.small.proofs.digits_of.Given as goal

abbrev pub invariant-loop-v : goal.invariant-loop-v
invariant-loop-v l = SmallTo l.numbers l.digits l.v-index
