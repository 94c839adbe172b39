-- The loop has kept the voltages before the turn's own.
use Rattle.branch.proofs.Kept.{KeptUp}
use Rattle.branch.proofs.answering.keep_all.Given as goal

abbrev pub invariant-loop-k : goal.invariant-loop-k
invariant-loop-k l = KeptUp l.fn.volts l.k l.kept
