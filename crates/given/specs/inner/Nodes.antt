-- A caller's node as the board holds it.
use Rattle.std.specs.Prelude.{cond, ℕ, ℤ, nat_abs}
use Rattle.totals.specs.Gives.{nodes_most}
use Rattle.given.specs.Arguments.{off_node}

-- a node number in range, and the number of nodes for any other
abbrev pub node_of : ℤ → ℕ
node_of z = cond (off_node z) nodes_most (nat_abs z)
