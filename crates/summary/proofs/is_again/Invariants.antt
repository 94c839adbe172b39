-- `is_again`: whether one of the places passed has the card.
use Rattle.std.proofs.Common.{◌-◌, ◌≤◌, ℕ, get_or, eqb}
use Rattle.given.specs.Lists.{any_of}
use Rattle.places.specs.Counts.{transistors_most}
use Rattle.summary.proofs.Walked.{Walked}
use Rattle.summary.proofs.is_again.Given as goal

abbrev pub invariant-loop-j : goal.invariant-loop-j
invariant-loop-j l =
    (l.j ≤ l.i) ×
    Walked l.set (λ (k : ℕ). get_or l.cards k 0) (any_of (eqb (get_or l.cards l.i 0))) l.j l.found

abbrev pub decreases-loop-j : goal.decreases-loop-j
decreases-loop-j l = transistors_most - l.j
