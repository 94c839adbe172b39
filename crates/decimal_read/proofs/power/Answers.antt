-- Nothing, a power, and anything else.
use Rattle.std.proofs.Common.{arith, rules}
use Rattle.decimal_read.proofs.Parts.{power_none, power_marked, power_other}
use Rattle.decimal_read.proofs.power.Goals as goal

pub returns-in-empty : goal.returns-in-empty
returns-in-empty c = (power_none c.args.s.now (omega arith), omega arith)

pub returns-in-101 : goal.returns-in-101
returns-in-101 c = power_marked c.args.s.now c.signed.result (omega arith) (search rules) c.signed.ensures

pub returns-in_default : goal.returns-in_default
returns-in_default c = power_other c.args.s.now (omega arith) (search rules)
