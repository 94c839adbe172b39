-- The totals before the turn's own stand as they would, all of them in their range.
use lib.IntN.{pos}
use Rattle.totals.specs.Gives.{nodes_most}
use Rattle.small.proofs.OfSlices.Passing.{Passing, would_at, out_at}
use Rattle.standing.proofs.stand_each.Given as goal

abbrev pub invariant-loop-k : goal.invariant-loop-k
invariant-loop-k l =
    Passing (pos 0) nodes_most (out_at l.totals l.coming l.going) (would_at l.totals l.coming l.going) l.k l.next
