-- `naming_any`: the places in a set so far, and those in one of the pairs left, are those in the set of any pair.
use Rattle.std.proofs.Common.{◌≡◌, pos, ap, ◌∙◌, get_or, arith, rules}
use Rattle.whole.specs.laws.Machine.{held}
use Rattle.given.specs.inner.Nodes.{node_of}
use Rattle.pairs.proofs.Pairs.{next_on, named_none, named_more, named_all, after_first}
use Rattle.pairs.proofs.naming_any.Goals as goal
use Rattle.pairs.proofs.naming_any.Goals.{After-node_of-named}

node_is : (c : After-node_of-named) → c.node_of-named.result ≡ node_of (get_or c.loop-rest.rest.now 0 (pos 0))
node_is c =
    let z = get_or c.loop-rest.rest.now 0 (pos 0) in
    let e : held z ≡ z = search rules in c.node_of-named.ensures ∙ ap node_of e

pub loop-rest-init : goal.loop-rest-init
loop-rest-init c = named_none _ _ c.requires

pub bounds-naming-named : goal.bounds-naming-named
bounds-naming-named c =
    let n = (goal.at.bounds-naming-named c).After-node_of-named in
    (next_on n.loop-rest.rest.now {i = 0} n.loop-rest.invariant.on (omega arith) (node_is n)).there

pub loop-rest-preserved : goal.loop-rest-preserved
loop-rest-preserved c =
    named_more _ _ c.loop-rest.invariant (omega arith) (node_is (goal.at.loop-rest-preserved c).After-node_of-named)
    (after_first c.loop-rest.rest.now)

pub returns : goal.returns
returns c = named_all _ _ c.loop-rest.invariant (omega arith)
