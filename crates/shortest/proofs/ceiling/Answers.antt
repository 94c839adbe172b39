-- The power that is given was tested.
use Rattle.std.proofs.Common.{rules}
use Rattle.shortest.proofs.Powers.{ruled_out}
use Rattle.shortest.proofs.ceiling.Goals as goal

pub returns-in-Some : goal.returns-in-Some
returns-in-Some c = (search rules, ruled_out _ (search rules) (search rules) (search rules))
