-- The word, what is read and the newline.
use Rattle.sheet.specs.Lines.{node_line}
use Rattle.sheet.proofs.Numerals.{as_read}
use Rattle.sheet.proofs.Texts.{then, gathered}
use Rattle.sheet.proofs.node_line.Goals as goal

pub returns : goal.returns
unfolding node_line
returns c =
    let s = c.args in
    gathered c.empty-t.ensures
    (then c.append.ensures
    (then (as_read s.microvolts c.ranges.microvolts s.node s.ticks c.ranges.ticks c.reading.ensures) c.push.ensures))
