-- `keep_pairs`: the voltages kept so far, after the pairs left, are those after all pairs.
use Rattle.std.proofs.Common.{◌≡◌, ◌≤◌, ◌<◌, ℕ, ℤ, pos, ap, sym, subst, ◌∙◌, get_or, arith, rules}
use Rattle.std.proofs.lemmas.Result.{err_from_is_err_and}
use Rattle.volts.specs.laws.Keeping.{kept_is, outside_is}
use Rattle.whole.specs.laws.Machine.{held}
use Rattle.given.specs.inner.Nodes.{node_of}
use Rattle.model.specs.Counts.{nodes_most}
use Rattle.model.proofs.Verdicts.{off_board_lem, on_board}
use Rattle.pairs.proofs.Pairs.{kept_none, kept_more, off_by_node, off_by_volts, kept_all, after_first}
use Rattle.pairs.proofs.Pairs.{kept_or, none_or}
use Rattle.pairs.proofs.keep_pairs.Goals as goal
use Rattle.pairs.proofs.keep_pairs.Goals.{After-node_of-n}

-- the node of the pair that the loop has come to
abbrev given_node : After-node_of-n → ℤ
given_node c = get_or c.loop-rest.rest.now 0 (pos 0)

number : (c : After-node_of-n) → c.node_of-n.result ≡ node_of (given_node c)
number c = let e : held (given_node c) ≡ given_node c = search rules in c.node_of-n.ensures ∙ ap node_of e

pub loop-rest-init : goal.loop-rest-init
loop-rest-init c = kept_none _ _

pub returns-then-n-ge-NODES : goal.returns-then-n-ge-NODES
returns-then-n-ge-NODES c =
    let n = (goal.at.returns-then-n-ge-NODES c).After-node_of-n in
    off_by_node _ _ _ c.loop-rest.invariant (omega arith)
    (off_board_lem (given_node n) (subst (λ (m : ℕ). nodes_most ≤ m) (number n) c.if-n-ge-NODES.true))

pub returns-in_err-will : goal.returns-in_err-will
returns-in_err-will c =
    let z = get_or c.loop-rest.rest.now 1 (pos 0) in
    let there : held z ≡ z = search rules in
    let o = none_or c.keep.result (sym c.ok_or.ensures.value ∙ c.in_err-will.was) in
    let q = err_from_is_err_and c.from_residual.result c.from_residual.ensures.1 in
    rw (q.1, q.2, o.1)
    (off_by_volts _ _ _ c.loop-rest.invariant (omega arith) (outside_is there c.keep.ensures o.0))

pub loop-rest-preserved : goal.loop-rest-preserved
loop-rest-preserved c =
    let n = (goal.at.loop-rest-preserved c).After-node_of-n in
    let z = get_or c.loop-rest.rest.now 1 (pos 0) in
    let there : held z ≡ z = search rules in
    let on = on_board (given_node n) (subst (λ (m : ℕ). m < nodes_most) (number n) c.if-n-ge-NODES.false) in
    kept_more _ _ c.loop-rest.invariant (omega arith) on.0 (number n) (kept_is there c.keep.ensures (kept_or c.keep.result (sym c.ok_or.ensures.value ∙ c.in_ok-will.was)))
    (after_first c.loop-rest.rest.now)

pub returns : goal.returns
returns c = kept_all _ _ c.loop-rest.invariant (omega arith)
