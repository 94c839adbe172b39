-- Those that were read are in their range.
use Rattle.standing.proofs.Small.{Read}
use Rattle.standing.proofs.stand_still.Given as goal

abbrev pub invariant-loop-total : goal.invariant-loop-total
invariant-loop-total l = Read l.totals l._total-index
