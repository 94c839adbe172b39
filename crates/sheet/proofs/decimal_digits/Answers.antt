-- Digits gathered from nothing on.
use Rattle.sheet.proofs.Texts.{gathered}
use Rattle.sheet.proofs.decimal_digits.Goals as goal

pub returns : goal.returns
returns c = gathered c.empty-t.ensures c.decimal.ensures
