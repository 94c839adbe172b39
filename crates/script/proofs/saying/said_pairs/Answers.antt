use Rattle.script.specs.Command.{said, said_pairs}
use Rattle.script.proofs.saying.said_pairs.Goals as goal

pub returns : goal.returns
unfolding said said_pairs
returns c = rw (c.said.ensures, c.verb_if.ensures, c.are_pairs.ensures, c.series_of-list.ensures)
