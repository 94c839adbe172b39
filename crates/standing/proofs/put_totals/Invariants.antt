-- The first totals are written.
use Prim.Native.Nat.{ℕ}
use lib.ListN.{get_or}
use lib.IntN.{pos}
use Rattle.rows.specs.laws.Filled.{Filled}
use Rattle.totals.specs.Gives.{nodes_most}
use Rattle.standing.proofs.put_totals.Given as goal

abbrev pub invariant-loop-k : goal.invariant-loop-k
invariant-loop-k l = Filled (pos 0) nodes_most (λ (i : ℕ). get_or l.next i (pos 0)) l.k l.totals
