-- Nothing, the last digit alone, and the last digit after those before it.
use Rattle.std.proofs.Common.{arith, refl}
use Rattle.sheet.specs.Digits.{plain_digits}
use Rattle.sheet.proofs.Texts.{none}
use Rattle.sheet.proofs.Numerals.{plain_last, plain_on}
use Rattle.sheet.proofs.Text.+plain.Goals as goal

pub returns-then-k-eq0 : goal.returns-then-k-eq0
unfolding plain_digits
returns-then-k-eq0 t c = rw c.if-k-eq0.true (none refl)

pub returns-then-x-lt10 : goal.returns-then-x-lt10
returns-then-x-lt10 t c = plain_last _ _ (omega arith) c.if-x-lt10.true c.glyph.ensures c.push.ensures

pub returns : goal.returns
returns t c = plain_on _ _ (omega arith) c.if-x-lt10.false c.plain.ensures c.glyph-2.ensures c.push-2.ensures
