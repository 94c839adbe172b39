use Rattle.script.specs.Command.{said}
use Rattle.script.proofs.saying.said.Goals as goal

pub returns : goal.returns
unfolding said
returns c = rw c.numbers_of.ensures
