-- Digits gathered from nothing on.
use mir.Syntax.{w64}
use mir.ValLaws.{to_z-of_z}
use Rattle.sheet.proofs.Texts.{gathered}
use Rattle.sheet.proofs.signed_digits.Goals as goal

pub returns : goal.returns
returns c = gathered c.empty-t.ensures (rw (to_z-of_z w64 c.args.v c.ranges.v) at c.signed.ensures)
