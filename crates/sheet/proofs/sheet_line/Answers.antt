-- What is read, the amperes and the newline.
use Rattle.sheet.specs.Digits.{ampere_digits}
use Rattle.sheet.specs.Lines.{sheet_line}
use Rattle.sheet.proofs.Numerals.{as_given, as_read}
use Rattle.sheet.proofs.Texts.{then, gathered}
use Rattle.sheet.proofs.sheet_line.Goals as goal

pub returns : goal.returns
unfolding sheet_line
returns c =
    let s = c.args in
    gathered c.empty-t.ensures
    (then (as_read s.microvolts c.ranges.microvolts s.node s.ticks c.ranges.ticks c.reading.ensures)
    (then c.push.ensures
    (then (as_given s.ticks c.ranges.ticks ampere_digits c.amperes.ensures) c.push-2.ensures)))
