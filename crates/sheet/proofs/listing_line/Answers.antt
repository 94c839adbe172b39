-- The name, and the mask and the number that are those of the record.
use mathlib.Core.Path.{ap, ◌∙◌}
use Rattle.sheet.specs.Digits.{mask_digits}
use Rattle.sheet.specs.Lines.{listing_line}
use Rattle.sheet.proofs.Listed.{mask_listed, number_listed}
use Rattle.sheet.proofs.Texts.{then, gathered}
use Rattle.sheet.proofs.listing_line.Goals as goal

pub returns : goal.returns
unfolding listing_line
returns c =
    let number = c.judged-number.ensures in
    let digits = c.mask_width.ensures ∙ ap mask_digits c.is_wide.ensures in
    gathered c.empty-t.ensures
    (then c.append.ensures
    (then c.push.ensures
    (then (mask_listed _ number c.mask.ensures c.listed_mask-mask.ensures digits c.hex.ensures)
    (then (number_listed _ number c.spaced.ensures) c.push-2.ensures))))
