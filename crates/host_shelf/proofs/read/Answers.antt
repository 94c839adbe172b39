-- What reading a library out leaves.
use Rattle.host_shelf.proofs.Laws.{reads_out, reads_not}
use Rattle.host_shelf.proofs.read.Goals as goal

pub returns-in-Ok : goal.returns-in-Ok
returns-in-Ok c = reads_out c.args.cards.now c.args.version.now _ (rw c.in-Ok.is at c.read.ensures)

pub returns-in-Err : goal.returns-in-Err
returns-in-Err c = rw c.number.ensures (reads_not c.args.cards.now c.args.version.now _ (rw c.in-Err.is at c.read.ensures))
