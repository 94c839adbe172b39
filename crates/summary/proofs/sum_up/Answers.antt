-- `sum_up` turns away what is no node, and else sums the node's set up.
use mathlib.Core.Path.{◌≡◌, ap, subst, ◌∙◌}
use Prim.Native.Nat.{ℕ, ◌≤◌}
use mir.Syntax.{w64}
use mir.ValLaws.{to_z-of_z}
use Rattle.given.specs.inner.Nodes.{node_of}
use Rattle.model.specs.Counts.{nodes_most}
use Rattle.summary.proofs.Sums.{sums_off, sums_it}
use Rattle.summary.proofs.sum_up.Goals as goal
use Rattle.summary.proofs.sum_up.Goals.{After-node_of-n}

number : (c : After-node_of-n) → c.node_of-n.result ≡ node_of c.args.node
number c = c.node_of-n.ensures ∙ ap node_of (to_z-of_z w64 c.args.node c.ranges.node)

pub returns-then-n-ge-NODES : goal.returns-then-n-ge-NODES
returns-then-n-ge-NODES c =
    λ b l. sums_off _ _
    (subst (λ (k : ℕ). nodes_most ≤ k) (number (goal.at.returns-then-n-ge-NODES c).After-node_of-n) c.if-n-ge-NODES.true)

pub returns : goal.returns
returns c =
    λ b l. sums_it _ _ l (number (goal.at.returns c).After-node_of-n) c.if-n-ge-NODES.false c.count-count.ensures
    c.cards_in-kinds.ensures c.largest_in-most.ensures
