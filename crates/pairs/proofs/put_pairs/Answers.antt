-- `put_pairs`: the voltages written so far, moved by the pairs left, are those moved by all pairs.
use Rattle.std.proofs.Common.{◌≡◌, ◌<◌, pos, ap, ◌∙◌, get_or, arith, rules}
use Rattle.whole.specs.laws.Machine.{held}
use Rattle.totals.specs.Gives.{nodes_most}
use Rattle.given.specs.inner.Nodes.{node_of}
use Rattle.pairs.proofs.Pairs.{next_on, put_none, put_more, put_all, after_first}
use Rattle.pairs.proofs.put_pairs.Goals as goal
use Rattle.pairs.proofs.put_pairs.Goals.{After-node_of-at}

node_is : (c : After-node_of-at) → c.node_of-at.result ≡ node_of (get_or c.loop-rest.rest.now 0 (pos 0))
node_is c =
    let z = get_or c.loop-rest.rest.now 0 (pos 0) in
    let e : held z ≡ z = search rules in c.node_of-at.ensures ∙ ap node_of e

on_board : (c : After-node_of-at) → c.node_of-at.result < nodes_most
on_board c = (next_on c.loop-rest.rest.now {i = 0} c.loop-rest.invariant.on (omega arith) (node_is c)).there

pub loop-rest-init : goal.loop-rest-init
loop-rest-init c = put_none _ _ c.requires.volts_len c.requires.pairs_value

pub bounds-volts-at : goal.bounds-volts-at
bounds-volts-at c =
    let h = on_board (goal.at.bounds-volts-at c).After-node_of-at in
    let l = c.loop-rest.invariant.long in omega arith

pub loop-rest-preserved : goal.loop-rest-preserved
loop-rest-preserved c =
    let z = get_or c.loop-rest.rest.now 1 (pos 0) in
    let e : held z ≡ z = search rules in
    put_more _ _ c.loop-rest.invariant (omega arith) (node_is (goal.at.loop-rest-preserved c).After-node_of-at) e
    (after_first c.loop-rest.rest.now)

pub returns : goal.returns
returns c = put_all _ _ c.loop-rest.invariant (omega arith)
