-- The record of a card that is located, or why it is not.
use Rattle.page.proofs.Pages.{as_bytes}
use Rattle.shelving.specs.Shelf.{clip_said, card_clipped}
use Rattle.shelving.proofs.Cards.{record_said, record_none}
use Rattle.shelving.proofs.clip.Goals as goal

pub returns-in-Ok : goal.returns-in-Ok
unfolding card_clipped
returns-in-Ok c =
    as_bytes (record_said _ _ c.locate.ensures c.in-Ok.is clip_said c.part.ensures)
    c.clip_record.ensures

pub returns-in-Err : goal.returns-in-Err
unfolding card_clipped
returns-in-Err c =
    as_bytes (record_none _ _ c.locate.ensures c.in-Err.is clip_said) c.put_refused.ensures
