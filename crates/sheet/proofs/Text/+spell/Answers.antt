-- Nothing, and the last digit after those before it.
use Rattle.std.proofs.Common.{arith, refl}
use Rattle.sheet.specs.Digits.{digits_of}
use Rattle.sheet.proofs.Texts.{none}
use Rattle.sheet.proofs.Numerals.{spell_on}
use Rattle.sheet.proofs.Text.+spell.Goals as goal

pub returns-then-k-eq0 : goal.returns-then-k-eq0
unfolding digits_of
returns-then-k-eq0 t c = rw c.if-k-eq0.true (none refl)

pub returns : goal.returns
returns t c = spell_on _ _ (omega arith) _ c.spell.ensures c.glyph.ensures c.push.ensures
