-- The voltages kept so far, after the pairs left, are those after all pairs.
use Rattle.std.proofs.Common.{length}
use Rattle.pairs.proofs.Pairs.{KeptTo}
use Rattle.pairs.proofs.keep_pairs.Given as goal

abbrev pub invariant-loop-rest : goal.invariant-loop-rest
invariant-loop-rest l = KeptTo l.fn.pairs l.initial.will l.will l.rest

abbrev pub decreases-loop-rest : goal.decreases-loop-rest
decreases-loop-rest l = length l.rest
