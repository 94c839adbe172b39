-- `look_up` hands back the answer, and the board as it was.
use mathlib.Core.Path.{refl}
use Rattle.reading.specs.OfLending.Rest.{bare}
use Rattle.board.specs.Promise.{model_of}
use Rattle.board.proofs.Reaches.{after_look}
use Rattle.taking.proofs.OfHolding.Whole.{looked_whole}
use Rattle.board.proofs.Board.look_up.Goals as goal

pub returns-clause-value : goal.returns-clause-value
returns-clause-value c =
    let b = bare (model_of c.args.self) in
    rw c.answer_of.ensures
    (after_look c.requires c.args.name.now refl
    (looked_whole b c.args.name.now (c.look_up-found.ensures b refl refl))).0
