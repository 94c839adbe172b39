-- Digits gathered from nothing on.
use Rattle.sheet.proofs.Texts.{gathered}
use Rattle.sheet.proofs.word_digits.Goals as goal

pub returns : goal.returns
returns c = gathered c.empty-t.ensures c.hex.ensures
