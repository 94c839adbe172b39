-- A line of the text.
use Rattle.explaining.specs.Sentences.{sentence_of}
use Rattle.explaining.proofs.sentences.sentence.Goals as goal

pub returns : goal.returns
unfolding sentence_of
returns c = c.line.ensures
