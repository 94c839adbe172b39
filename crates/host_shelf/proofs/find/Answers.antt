-- What finding a card leaves.
use Rattle.host_shelf.proofs.Laws.{finds, finds_not}
use Rattle.host_shelf.proofs.find.Goals as goal

pub returns-in-Ok : goal.returns-in-Ok
returns-in-Ok c =
    finds c.args.library.now c.args.name.now c.args.at.now c.args.size.now _ (rw c.in-Ok.is at c.locate.ensures)

pub returns-in-Err : goal.returns-in-Err
returns-in-Err c =
    rw c.number.ensures
    (finds_not c.args.library.now c.args.name.now c.args.at.now c.args.size.now _ (rw c.in-Err.is at c.locate.ensures))
