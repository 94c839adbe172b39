-- A digit, and any other byte.
use Rattle.std.proofs.Common.{◌≡◌, ◌∙◌, ◌<◌, arith}
use Rattle.decimal_read.proofs.Bytes.{told_none, digit_told, digit_not}
use Rattle.decimal_read.proofs.figure.Goals as goal

pub returns-in_err-to_digit : goal.returns-in_err-to_digit
returns-in_err-to_digit c =
    told_none _ _ _ c.from_residual.ensures (digit_not c.args.b (rw c.from.ensures at c.in_err-to_digit.ensures.cases))

pub returns : goal.returns
returns c =
    let d = c.in_ok-to_digit.ensures in
    let l : c.from-2.result < 10 = omega (arith, c.from-2.ensures, d.value) in
    let e : c.from-2.result ≡ c.in_ok-to_digit.field-0 = c.from-2.ensures in
    (e ∙ digit_told c.args.b _ (omega (arith, e)) (rw c.from.ensures at d.cases), l)
