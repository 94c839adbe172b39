-- `cards_in` has counted the different cards at the places of the set before i.
use Rattle.std.proofs.Common.{◌-◌, ℕ, get_or}
use Rattle.given.specs.Lists.{different}
use Rattle.places.specs.Counts.{transistors_most}
use Rattle.summary.proofs.Walked.{Walked}
use Rattle.summary.proofs.cards_in.Given as goal

abbrev pub invariant-loop-i : goal.invariant-loop-i
invariant-loop-i l = Walked l.set (λ (k : ℕ). get_or l.cards k 0) different l.i l.count

abbrev pub decreases-loop-i : goal.decreases-loop-i
decreases-loop-i l = transistors_most - l.i
