-- The record of a card that is located, or why it is not.
use Rattle.page.proofs.Pages.{as_bytes}
use Rattle.shelving.specs.Shelf.{model_said, card_model}
use Rattle.shelving.proofs.Cards.{record_said, record_none}
use Rattle.shelving.proofs.model.Goals as goal

pub returns-in-Ok : goal.returns-in-Ok
unfolding card_model
returns-in-Ok c =
    as_bytes (record_said _ _ c.locate.ensures c.in-Ok.is
    (model_said c.args.name.now) c.part.ensures) c.write_model.ensures

pub returns-in-Err : goal.returns-in-Err
unfolding card_model
returns-in-Err c =
    as_bytes (record_none _ _ c.locate.ensures c.in-Err.is
    (model_said c.args.name.now)) c.put_refused.ensures
