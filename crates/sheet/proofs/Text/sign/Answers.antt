use Rattle.std.proofs.Common.{refl}
use Rattle.sheet.proofs.Texts.{none}
use Rattle.sheet.proofs.Text.sign.Goals as goal

pub returns-else-below : goal.returns-else-below
returns-else-below c = rw c.if-below.false (none refl)
