-- What the roles before the turn's own have is given.
use Prim.Native.Nat.{ℕ}
use lib.ListN.{get_or}
use lib.IntN.{pos}
use Rattle.totals.specs.Gives.{nodes_most}
use Rattle.totals.specs.inner.Sums.{More, spread}
use Rattle.totals.proofs.hand_out.Given as goal

abbrev pub invariant-loop-k : goal.invariant-loop-k
invariant-loop-k l = More nodes_most l.initial.l l.l (spread l.nodes (λ (r : ℕ). get_or l.a r (pos 0)) l.k)
