-- The voltages before the turn's own are in their range.
use Rattle.slices.proofs.Passing.{AllOn, off_at}
use Rattle.keeping.proofs.in_range.Given as goal

abbrev pub invariant-loop-v : goal.invariant-loop-v
invariant-loop-v l = AllOn (off_at l.volts) l.v-index
