-- `load` lends its arrays, and what comes back is the next board.
use mathlib.Core.Path.{refl}
use Rattle.reading.specs.OfLending.Rest.{bare}
use mathlib.Core.List.{[]}
use Rattle.model.specs.Desk.{load}
use Rattle.reading.specs.OfLending.Lending.{lent_of}
use Rattle.board.specs.Promise.{model_of}
use Rattle.board.proofs.Reaches.{next_fits, after_load, reached_by}
use Rattle.taking.proofs.OfHolding.Whole.{own_cards, loaded_whole}
use Rattle.board.proofs.Board.load.Goals as goal

pub overflow_cast-issue : goal.overflow_cast-issue
overflow_cast-issue c = next_fits c.requires

pub returns-clause-value : goal.returns-clause-value
returns-clause-value c =
    let b = bare (model_of c.args.self) in
    rw c.answer_of.ensures
    (after_load c.requires c.args.name.now c.args.bytes.now refl
    (loaded_whole b c.args.name.now c.args.bytes.now (c.load-loaded.ensures b (own_cards b) refl))).0

pub returns-clause-reached : goal.returns-clause-reached
unfolding lent_of
returns-clause-reached c = reached_by c.requires [] [] (load c.args.name.now c.args.bytes.now) (returns-clause-value c)
