-- `list_node` hands back the answer, and the board as it was; the list was left in the lent buffer.
use mathlib.Core.Path.{refl}
use mir.Syntax.{w64}
use mir.ValLaws.{to_z-of_z}
use Rattle.reading.specs.OfLending.Rest.{bare}
use Rattle.board.specs.Promise.{model_of}
use Rattle.board.proofs.Reaches.{after_list}
use Rattle.roster.proofs.Tells.{listed_whole}
use Rattle.board.proofs.Board.list_node.Goals as goal

pub returns-clause-value : goal.returns-clause-value
returns-clause-value c =
    let b = bare (model_of c.args.self) in
    let lent = c.list_node-listed.ensures b refl refl in
    let told = rw (to_z-of_z w64 c.args.node c.ranges.node) at lent in
    rw c.answer_of.ensures
    (after_list c.requires c.args.node c.args.list.now refl
    (listed_whole b c.args.node _ told.answer_is) told.list_is).0
