-- The space, then the number.
use Rattle.sheet.proofs.Texts.{then}
use Rattle.sheet.proofs.Text.spaced.Goals as goal

pub returns : goal.returns
returns c = then c.push.ensures c.decimal.ensures
