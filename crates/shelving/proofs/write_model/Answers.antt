-- The text that writing left at the start of its room, or why it left none.
use Rattle.page.proofs.Pages.{as_bytes}
use Rattle.shelving.specs.Shelf.{model_said}
use Rattle.shelving.proofs.Lines.{model_taken, model_refused}
use Rattle.shelving.proofs.write_model.Goals as goal

pub returns-in-Ok : goal.returns-in-Ok
unfolding model_said
returns-in-Ok c =
    as_bytes (model_taken c.write_line.ensures c.in-Ok.is c.part.ensures)
    c.model_line.ensures

pub returns-in-Err : goal.returns-in-Err
unfolding model_said
returns-in-Err c =
    as_bytes (model_refused c.write_line.ensures c.in-Err.is) c.put_refused.ensures
