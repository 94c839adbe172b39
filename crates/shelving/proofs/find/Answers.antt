-- The place of a card that is located, or why it is not.
use Rattle.page.proofs.Pages.{as_bytes}
use Rattle.shelving.proofs.Cards.{place_there, place_none}
use Rattle.shelving.proofs.find.Goals as goal

pub returns-in-Ok : goal.returns-in-Ok
returns-in-Ok c =
    as_bytes (place_there _ _ c.locate.ensures c.in-Ok.is) c.answer_line.ensures

pub returns-in-Err : goal.returns-in-Err
returns-in-Err c =
    as_bytes (place_none _ _ c.locate.ensures c.in-Err.is) c.put_refused.ensures
