-- The voltages written so far, moved by the pairs left, are those moved by all pairs.
use Rattle.std.proofs.Common.{length}
use Rattle.pairs.proofs.Pairs.{PutTo}
use Rattle.pairs.proofs.put_pairs.Given as goal

abbrev pub invariant-loop-rest : goal.invariant-loop-rest
invariant-loop-rest l = PutTo l.fn.pairs l.initial.volts l.volts l.rest

abbrev pub decreases-loop-rest : goal.decreases-loop-rest
decreases-loop-rest l = length l.rest
