-- The places in a set so far, and those in one of the pairs left, are those in the set of any pair.
use Rattle.std.proofs.Common.{length}
use Rattle.pairs.proofs.Pairs.{NamedTo}
use Rattle.pairs.proofs.naming_any.Given as goal

abbrev pub invariant-loop-rest : goal.invariant-loop-rest
invariant-loop-rest l = NamedTo l.fn.pairs l.naming l.set l.rest

abbrev pub decreases-loop-rest : goal.decreases-loop-rest
decreases-loop-rest l = length l.rest
