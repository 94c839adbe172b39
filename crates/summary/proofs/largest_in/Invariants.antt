-- `largest_in` has passed the places of the set before i.
use Rattle.std.proofs.Common.{◌-◌}
use Rattle.given.specs.Lists.{largest}
use Rattle.places.specs.Counts.{transistors_most}
use Rattle.summary.specs.inner.Told.{size_in}
use Rattle.summary.proofs.Walked.{Walked}
use Rattle.summary.proofs.largest_in.Given as goal

abbrev pub invariant-loop-i : goal.invariant-loop-i
invariant-loop-i l = Walked l.set (size_in l.nodes l.currents l.n) largest l.i l.most

abbrev pub decreases-loop-i : goal.decreases-loop-i
decreases-loop-i l = transistors_most - l.i
