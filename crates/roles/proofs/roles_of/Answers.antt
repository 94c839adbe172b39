-- The node of each role, in their order.
use Rattle.std.proofs.Common.{rules}
use lib.IntN.{pos}
use Rattle.roles.specs.Roles.{node_at}
use Rattle.roles.proofs.Made.{made}
use Rattle.roles.proofs.roles_of.Goals as goal

pub returns : goal.returns
returns c = made _ _ (node_at c.args.nodes.now) (λ a y q k. search rules) c.from_fn.result (pos 0) 11 c.from_fn.ensures.items
