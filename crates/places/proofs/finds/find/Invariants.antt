-- `find` stops at the first place with the number.
use Rattle.places.specs.inner.Flat.{below, is_at}
use Rattle.places.proofs.Scans.{Passed}
use Rattle.places.proofs.finds.find.Given as goal

abbrev pub invariant-loop-i : goal.invariant-loop-i
invariant-loop-i g l = Passed (is_at l.n l.numbers) (below g.row.N) l.i
