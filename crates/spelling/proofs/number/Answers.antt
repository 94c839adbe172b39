-- Nothing, a minus sign first, or none.
use Rattle.std.proofs.Common.{arith, rules}
use Rattle.spelling.proofs.Numerals.{no_numeral, with_minus, without_minus}
use Rattle.spelling.proofs.number.Goals as goal

pub returns-in-empty : goal.returns-in-empty
returns-in-empty c = no_numeral c.args.word.now (omega arith)

pub returns-in-45 : goal.returns-in-45
returns-in-45 c = with_minus c.args.word.now (search rules) c.read.ensures

pub returns-in_default : goal.returns-in_default
returns-in_default c = without_minus c.args.word.now (search rules) c.read-in_default.ensures
