-- The word, the three numbers and the newline.
use Rattle.sheet.specs.Lines.{numbers_line, told_line}
use Rattle.sheet.proofs.Texts.{then, gathered}
use Rattle.sheet.proofs.told_line.Goals as goal

pub returns : goal.returns
unfolding numbers_line told_line
returns c =
    gathered c.empty-t.ensures
    (then c.append.ensures
    (then c.spaced.ensures (then c.spaced-2.ensures (then c.spaced-3.ensures c.push.ensures))))
