-- The ticks of the rows before the turn's own are written: first the junctions', then the leads'.
use lib.IntN.{pos}
use Rattle.terms.specs.Rows.{branches}
use Rattle.rows.specs.inner.FromTerms.{ticks_at}
use Rattle.rows.specs.laws.Filled.{Filled}
use Rattle.rows.proofs.all_divided.Given as goal

abbrev pub invariant-loop-k : goal.invariant-loop-k
invariant-loop-k l = Filled (pos 0) branches (ticks_at l.x) l.k l.ticks

abbrev pub invariant-loop-k-2 : goal.invariant-loop-k-2
invariant-loop-k-2 l = Filled (pos 0) branches (ticks_at l.x) l.k l.ticks
