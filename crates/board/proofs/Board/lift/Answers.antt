-- `lift` lends its arrays beside the slices, and what comes back is the next board.
use mir.Syntax.{w64}
use mir.ValLaws.{to_z-of_z}
use Rattle.model.specs.Desk.{lift}
use Rattle.reading.specs.OfLending.Lending.{lent_of}
use Rattle.board.specs.Promise.{model_of}
use Rattle.board.proofs.Reaches.{after_lift, reached_by}
use Rattle.board.proofs.Whole.{own_standing}
use Rattle.board.proofs.Board.lift.Goals as goal

pub lift-lifted-requires : goal.lift-lifted-requires
lift-lifted-requires c = (model_of c.args.self, c.requires, own_standing (model_of c.args.self))

pub returns-clause-value : goal.returns-clause-value
returns-clause-value c =
    rw c.answer_of.ensures
    (after_lift c.args.self c.requires c.args.volts.now c.args.totals.now c.args.transistor
    (to_z-of_z w64 c.args.transistor c.ranges.transistor)
    (c.lift-lifted.ensures (model_of c.args.self) c.requires (own_standing (model_of c.args.self)))).0

pub returns-clause-reached : goal.returns-clause-reached
unfolding lent_of
returns-clause-reached c = reached_by c.requires c.args.volts.now c.args.totals.now (lift c.args.transistor) (returns-clause-value c)
