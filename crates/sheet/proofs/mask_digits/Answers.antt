-- Digits gathered from nothing on.
use Rattle.sheet.proofs.Texts.{gathered}
use Rattle.sheet.proofs.mask_digits.Goals as goal

pub returns : goal.returns
returns c = rw (← c.mask_width.ensures) (gathered c.empty-t.ensures c.hex.ensures)
