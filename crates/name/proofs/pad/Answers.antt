-- `name::pad` meets its contract: the array holds the bytes passed, and zeros after them.
use Rattle.name.proofs.Laws.{is_padded}
use Rattle.name.proofs.pad.Goals as goal

pub returns : goal.returns
returns c = is_padded c.args.x.now c.min-n.ensures c.copy_from_slice.ensures.after
