-- The voltages before the turn's own are kept, all of them in their range.
use Rattle.slices.specs.OfTotals.Gives.{nodes_most}
use Rattle.slices.proofs.Passing.{Passing, off_at, kept_at}
use Rattle.keeping.proofs.keep_slice.Given as goal

abbrev pub invariant-loop-k : goal.invariant-loop-k
invariant-loop-k l = Passing 0 nodes_most (off_at l.volts) (kept_at l.volts) l.k l.kept
