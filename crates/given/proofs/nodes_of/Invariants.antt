-- The nodes before the turn's own are taken.
use lib.ListN.{get_or}
use lib.IntN.{pos}
use Prim.Native.Nat.{ℕ}
use Rattle.totals.specs.OfTerms.Rows.{roles}
use Rattle.totals.specs.OfRows.laws.Filled.{Filled}
use Rattle.given.specs.inner.Nodes.{node_of}
use Rattle.given.proofs.nodes_of.Given as goal

abbrev pub invariant-loop-k : goal.invariant-loop-k
invariant-loop-k l = Filled 0 roles (λ (i : ℕ). node_of (get_or l.fn.nodes i (pos 0))) l.k l.on
