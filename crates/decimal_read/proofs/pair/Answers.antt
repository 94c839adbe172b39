-- One byte, two bytes, and any other number of them.
use Rattle.std.proofs.Common.{arith}
use Rattle.decimal_read.proofs.Bytes.{told_none, one, pair_yes, pair_first, pair_second, neither}
use Rattle.decimal_read.proofs.pair.Goals as goal

pub returns-in-len1 : goal.returns-in-len1
returns-in-len1 c = one c.args.s.now c.figure.result (omega arith) c.figure.ensures

pub returns-in_err-figure-in-len2 : goal.returns-in_err-figure-in-len2
returns-in_err-figure-in-len2 c =
    told_none _ _ _ c.from_residual.ensures
    (pair_first c.args.s.now (omega arith) c.in_err-figure-in-len2.ensures)

pub returns-in_err-figure-in-len2-2 : goal.returns-in_err-figure-in-len2-2
returns-in_err-figure-in-len2-2 c =
    told_none _ _ _ c.from_residual-in_err-figure-in-len2-2.ensures
    (pair_second c.args.s.now (omega arith) c.in_err-figure-in-len2-2.ensures)

pub returns-in_ok-figure-in-len2-2 : goal.returns-in_ok-figure-in-len2-2
returns-in_ok-figure-in-len2-2 c =
    let a = c.in_ok-figure-in-len2.ensures in
    let b = c.in_ok-figure-in-len2-2.ensures in
    let l = a.1 in
    let m = b.1 in (pair_yes c.args.s.now (omega arith) _ _ a.0 b.0 l m, omega arith)

pub returns-in_default : goal.returns-in_default
returns-in_default c = neither c.args.s.now (λ e. omega arith) (λ e. omega arith)

pub returns-in_default-2 : goal.returns-in_default-2
returns-in_default-2 c = neither c.args.s.now (λ e. omega arith) (λ e. omega arith)
