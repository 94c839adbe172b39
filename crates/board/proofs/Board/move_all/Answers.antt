-- `move_all` lends its arrays beside the slices, and what comes back is the next board.
use Rattle.model.specs.Desk.{move}
use Rattle.reading.specs.OfLending.Lending.{lent_of}
use Rattle.board.specs.Promise.{model_of}
use Rattle.board.proofs.Reaches.{after_move, reached_by}
use Rattle.board.proofs.Whole.{own_lends}
use Rattle.board.proofs.Board.move_all.Goals as goal

pub move_all-moved-requires : goal.move_all-moved-requires
move_all-moved-requires c = (model_of c.args.self, c.requires, own_lends (model_of c.args.self))

pub returns-clause-value : goal.returns-clause-value
returns-clause-value c =
    rw c.answer_of.ensures
    (after_move c.args.self c.requires c.args.volts.now c.args.totals.now c.args.pairs.now
    (c.move_all-moved.ensures (model_of c.args.self) c.requires (own_lends (model_of c.args.self)))).0

pub returns-clause-reached : goal.returns-clause-reached
unfolding lent_of
returns-clause-reached c = reached_by c.requires c.args.volts.now c.args.totals.now (move c.args.pairs.now) (returns-clause-value c)
