-- The numbers, with the spaces between them.
use Rattle.sheet.specs.Digits.{signed_digits}
use Rattle.sheet.specs.Lines.{reading_of}
use Rattle.sheet.proofs.Numerals.{as_given}
use Rattle.sheet.proofs.Texts.{then}
use Rattle.sheet.proofs.Text.reading.Goals as goal

pub returns : goal.returns
unfolding reading_of
returns c =
    then c.decimal.ensures
    (then c.push.ensures
    (then (as_given c.args.microvolts c.ranges.microvolts signed_digits c.signed.ensures)
    (then c.push-2.ensures (as_given c.args.ticks c.ranges.ticks signed_digits c.signed-2.ensures))))
