-- Nothing, a minus first, and no minus.
use Rattle.std.proofs.Common.{arith, rules}
use Rattle.decimal_read.proofs.Parts.{read_none, read_minus, read_plain}
use Rattle.decimal_read.proofs.read.Goals as goal

pub returns-in-empty : goal.returns-in-empty
returns-in-empty c = (read_none c.args.s.now (omega arith), tt)

pub returns-in-45 : goal.returns-in-45
returns-in-45 c =
    let e = c.scan.ensures in
    (read_minus c.args.s.now _ (omega arith) (search rules) e.0, e.1)

pub returns-in_default : goal.returns-in_default
returns-in_default c =
    let e = c.scan-in_default.ensures in
    (read_plain c.args.s.now _ (omega arith) (search rules) e.0, e.1)
