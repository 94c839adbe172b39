-- None of the transistors before the turn's own stands on the card.
use Rattle.places.specs.Counts.{transistors_most}
use Rattle.places.specs.inner.Flat.{stands_on_at, below}
use Rattle.places.proofs.Scans.{Passed}
use Rattle.places.proofs.finds.any_on.Given as goal

abbrev pub invariant-loop-i : goal.invariant-loop-i
invariant-loop-i l = Passed (stands_on_at l.n l.issues l.cards) (below transistors_most) l.i
