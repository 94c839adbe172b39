use Rattle.std.proofs.Common.{ℕ, min, ap, ◌∙◌}
use mir.Syntax.{w64}
use mir.ValLaws.{to_z-of_z}
use Rattle.telling.specs.Said.{board_nodes, node_number}
use Rattle.telling.proofs.Nodes.{number_is}
use Rattle.telling.proofs.node_number.Goals as goal

pub returns : goal.returns
returns c =
    c.min.ensures ∙ ap (λ (n : ℕ). min n board_nodes) c.unwrap_or.ensures ∙ number_is _ c.try_from.result c.try_from.ensures
    ∙ ap node_number (to_z-of_z w64 c.args.node c.ranges.node)
