-- The word, the number and the newline.
use Rattle.sheet.specs.Lines.{numbers_line, label_line}
use Rattle.sheet.proofs.Texts.{then, gathered}
use Rattle.sheet.proofs.label_line.Goals as goal

pub returns : goal.returns
unfolding numbers_line label_line
returns c = gathered c.empty-t.ensures (then c.append.ensures (then c.spaced.ensures c.push.ensures))
