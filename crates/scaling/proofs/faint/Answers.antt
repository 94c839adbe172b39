-- So far below nothing is left.
use Rattle.scaling.proofs.Scaling.{none_left}
use Rattle.scaling.proofs.faint.Goals as goal

pub returns-then-g-x : goal.returns-then-g-x
returns-then-g-x c = none_left c.args.more c.requires.split c.requires.sized c.if-g-x.true
