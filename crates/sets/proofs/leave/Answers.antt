-- `leave` has been at the set of every node.
use mathlib.Core.Path.{refl}
use native.Mathlib.Omega.{arith}
use Rattle.stretches.specs.OfPlaces.laws.Members.{without_again}
use Rattle.sets.proofs.Nodes.{visited_none, visited_more, visited_all}
use Rattle.sets.proofs.leave.Goals as goal

pub loop-k-init : goal.loop-k-init
loop-k-init c = visited_none c.requires.sets_long

pub loop-k-preserved : goal.loop-k-preserved
loop-k-preserved c =
    let h = c.requires.on_long in
    rw c.without.ensures
    (visited_more _ (λ s. without_again s c.args.i) c.loop-k.invariant (omega arith) refl (c.requires.nodes.wired c.loop-k.k))

pub returns : goal.returns
returns c = visited_all c.loop-k.invariant (let h = c.requires.on_long in omega arith)
