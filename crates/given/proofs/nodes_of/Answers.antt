-- `nodes_of` takes every node.
use mathlib.Core.Path.{◌≡◌, ap, ◌∙◌}
use native.Mathlib.Omega.{arith}
use lib.ListN.{get_or, length}
use lib.IntN.{pos}
use borrow.Author.Rules.{rules}
use Rattle.whole.specs.laws.Machine.{held}
use Rattle.totals.specs.OfTerms.Rows.{roles}
use Rattle.totals.specs.OfRows.laws.Filled.{filled_none, filled_more, filled_map}
use Rattle.given.specs.inner.Nodes.{node_of}
use Rattle.given.proofs.nodes_of.Goals as goal

pub loop-k-init : goal.loop-k-init
loop-k-init c = filled_none (search rules)

pub loop-k-preserved : goal.loop-k-preserved
loop-k-preserved c =
    let z = get_or c.args.nodes c.loop-k.k (pos 0) in
    let e : held z ≡ z = search rules in
    filled_more _ (omega arith) (c.node_of.ensures ∙ ap node_of e) c.loop-k.invariant

pub returns : goal.returns
returns c =
    let long : length c.args.nodes ≡ roles = search rules in
    filled_map node_of (pos 0) c.args.nodes long (omega arith) c.loop-k.invariant
