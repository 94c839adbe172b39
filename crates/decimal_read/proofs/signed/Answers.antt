-- Nothing, a minus, and no minus, each with digits or without.
use Rattle.std.proofs.Common.{arith, rules}
use Rattle.decimal_read.proofs.Bytes.{told_none}
use Rattle.decimal_read.proofs.Parts.{signed_none, minus_some, minus_none, plain_some, plain_none}
use Rattle.decimal_read.proofs.signed.Goals as goal

pub returns-in-empty : goal.returns-in-empty
returns-in-empty c = signed_none c.args.s.now (omega arith)

pub returns-in_err-pair-in-45 : goal.returns-in_err-pair-in-45
returns-in_err-pair-in-45 c =
    told_none _ _ _ c.from_residual.ensures
    (minus_none c.args.s.now (omega arith) (search rules) c.in_err-pair-in-45.ensures)

pub returns-in_ok-pair-in-45 : goal.returns-in_ok-pair-in-45
returns-in_ok-pair-in-45 c =
    let v = c.in_ok-pair-in-45.ensures in (
      minus_some c.args.s.now (omega arith) (search rules) _ v.0 v.1,
      omega arith,
    )

pub returns-in_err-pair-in_default : goal.returns-in_err-pair-in_default
returns-in_err-pair-in_default c =
    told_none _ _ _ c.from_residual-in_err-pair-in_default.ensures
    (plain_none c.args.s.now (omega arith) (search rules) c.in_err-pair-in_default.ensures)

pub returns-in_ok-pair-in_default : goal.returns-in_ok-pair-in_default
returns-in_ok-pair-in_default c =
    let v = c.in_ok-pair-in_default.ensures in
    let l = v.1 in (
      plain_some c.args.s.now (omega arith) (search rules) _ v.0 l,
      omega arith,
    )
