-- A line of the text.
use Rattle.explaining.specs.Sentences.{ends_of}
use Rattle.explaining.proofs.sentences.ends.Goals as goal

pub returns : goal.returns
unfolding ends_of
returns c = c.line.ensures
