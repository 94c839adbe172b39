-- Without any digit, with a power that is none, and with one.
use Rattle.std.proofs.Common.{rules}
use Rattle.decimal_read.proofs.Parts.{ended_none, ended_some, ended_powerless, none_in}
use Rattle.decimal_read.proofs.ended.Goals as goal

pub returns-then-n-eq0 : goal.returns-then-n-eq0
returns-then-n-eq0 c = (ended_none _ _ _ _ _ (search rules), tt)

pub returns-in_err-power : goal.returns-in_err-power
returns-in_err-power c =
    none_in c.from_residual.ensures
    (ended_powerless _ _ _ _ _ (search rules) (search rules) c.in_err-power.ensures)

pub returns : goal.returns
returns c =
    let p = c.placed.ensures in
    (ended_some _ _ _ _ _ (search rules) _ _ p.0 c.in_ok-power.ensures.0, p.1)
