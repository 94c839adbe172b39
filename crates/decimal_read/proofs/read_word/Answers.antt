-- What was read is in range, so that it has a word.
use Rattle.decimal_read.proofs.Parts.{word_some, word_none}
use Rattle.decimal_read.proofs.read_word.Goals as goal

pub returns-in_err-x : goal.returns-in_err-x
returns-in_err-x c = word_none c.args.s.now c.from_residual.ensures c.in_err-x.ensures.0

pub returns : goal.returns
returns c = word_some c.args.s.now c.in_ok-x.ensures.0 c.word.ensures
