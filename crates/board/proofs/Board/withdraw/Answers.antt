-- `withdraw` lends its arrays, and what comes back is the next board.
use mathlib.Core.Path.{refl, ap, ◌∙◌}
use mir.Syntax.{w64}
use mir.ValLaws.{to_z-of_z}
use Rattle.model.specs.Model.{withdrawn_of}
use Rattle.reading.specs.OfLending.Rest.{bare}
use mathlib.Core.List.{[]}
use Rattle.model.specs.Desk.{withdraw}
use Rattle.reading.specs.OfLending.Lending.{lent_of}
use Rattle.board.specs.Promise.{model_of}
use Rattle.board.proofs.Reaches.{after_withdraw, reached_by}
use Rattle.taking.proofs.OfHolding.Whole.{own_cards, withdrawn_whole}
use Rattle.board.proofs.Board.withdraw.Goals as goal

pub returns-clause-value : goal.returns-clause-value
returns-clause-value c =
    let b = bare (model_of c.args.self) in
    rw c.answer_of.ensures
    (after_withdraw c.requires c.args.card refl
    (withdrawn_whole b _ (c.withdraw-withdrawn.ensures b (own_cards b) refl refl)
    ∙ ap (withdrawn_of b) (to_z-of_z w64 c.args.card c.ranges.card))).0

pub returns-clause-reached : goal.returns-clause-reached
unfolding lent_of
returns-clause-reached c = reached_by c.requires [] [] (withdraw c.args.card) (returns-clause-value c)
