-- The sets of the nodes before the turn's own are changed.
use Prim.Native.Nat.{ℕ}
use Rattle.stretches.specs.OfPlaces.Sets.{without_place}
use Rattle.sets.proofs.Nodes.{Visited}
use Rattle.sets.proofs.leave.Given as goal

abbrev pub invariant-loop-k : goal.invariant-loop-k
invariant-loop-k l = Visited (λ (s : ℕ). without_place s l.i) l.initial.naming l.on l.k l.naming
