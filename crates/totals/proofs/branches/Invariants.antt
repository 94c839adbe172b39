-- The branches before the turn's own are given.
use Rattle.ends.specs.OfTerms.Rows.{roles}
use Rattle.totals.specs.inner.Sums.{More, ends_give}
use Rattle.totals.proofs.branches.Given as goal

abbrev pub invariant-loop-k : goal.invariant-loop-k
invariant-loop-k l = More roles l.initial.a l.a (ends_give l.from l.to l.ticks l.k)
