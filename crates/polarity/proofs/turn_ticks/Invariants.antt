-- The ticks of the branches before the turn's own are turned over.
use Prim.Native.Nat.{ℕ}
use lib.ListN.{get_or}
use lib.IntN.{pos}
use mathlib.Core.Bool.{true}
use Rattle.outcome.specs.OfTerms.Rows.{branches}
use Rattle.outcome.specs.OfRows.laws.Filled.{Filled}
use Rattle.polarity.specs.Polarity.{turned}
use Rattle.polarity.proofs.turn_ticks.Given as goal

abbrev pub invariant-loop-k : goal.invariant-loop-k
invariant-loop-k l = Filled (pos 0) branches (λ (i : ℕ). turned true (get_or l.fn.ticks i (pos 0))) l.k l.over
