-- What the list has is said.
use mir.Syntax.{w64}
use mir.ValLaws.{to_z-of_z}
use Rattle.lending.specs.Rest.{bare}
use Rattle.board.specs.Promise.{model_of}
use Rattle.evening.proofs.Laws.{who_said_lem}
use Rattle.evening.proofs.list_node.Goals as goal

pub returns : goal.returns
returns c =
    let l = c.list_node-asked.ensures in
    who_said_lem (bare (model_of c.args.board)) (to_z-of_z w64 c.args.node c.ranges.node)
    (l.value, (l.reached, l.list_after)) c.put_listed.ensures
