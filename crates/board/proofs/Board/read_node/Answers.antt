-- `read_node` hands back the answer, and the board as it was.
use mir.Syntax.{w64}
use mir.ValLaws.{to_z-of_z}
use Rattle.board.specs.Promise.{model_of}
use Rattle.board.proofs.Reaches.{after_node}
use Rattle.board.proofs.Board.read_node.Goals as goal

pub returns-clause-value : goal.returns-clause-value
returns-clause-value c =
    rw c.answer_of.ensures
    (after_node c.args.self c.requires c.args.volts.now c.args.totals.now c.args.node
    (to_z-of_z w64 c.args.node c.ranges.node) (c.read_node-shown.ensures (model_of c.args.self))).0
