-- What was mended is held, and a refusal leaves the shelf as it was.
use mathlib.Core.Path.{refl}
use Rattle.shelving.proofs.Mended.{mend_taken, mend_refused}
use Rattle.shelving.proofs.mend.Goals as goal

pub returns-in-Ok : goal.returns-in-Ok
returns-in-Ok c =
    let s = c.args.shelf.now in
    mend_taken s c.held.ensures refl c.mend.ensures c.in-Ok.is c.held-in-Ok.ensures c.keep.ensures
    c.answer_line.ensures

pub returns-in-Err : goal.returns-in-Err
returns-in-Err c =
    let s = c.args.shelf.now in
    mend_refused s c.held.ensures refl c.mend.ensures c.in-Err.is c.put_refused.ensures
