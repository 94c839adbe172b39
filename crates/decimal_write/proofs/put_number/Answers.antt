-- With a minus and without: digits, the mark, the power.
use Rattle.std.proofs.Common.{arith}
use Rattle.decimal_write.proofs.Puts.{then, made, number_minus, number_plain}
use Rattle.decimal_write.proofs.put_number.Goals as goal
use Rattle.decimal_write.proofs.put_number.Goals.{then-x, else-x}

pub returns : goal.returns
returns c =
    elim c.if-x.branch [
      | then-x w ↦
          let digits = rw (w.line-is, w.first-is) at c.put_digits-mark.ensures.1 in (
            omega arith,
            made (then (then (then w.put-first.ensures.1 digits) c.put-power.ensures.1) c.put_power.ensures.1)
                (number_minus c.args.x.minus c.args.x.digits c.args.x.power w.if-x.true),
          )
      | else-x w ↦
          let digits = rw (w.line-is, w.first-is) at c.put_digits-mark.ensures.1 in (
            omega arith,
            made (then (then digits c.put-power.ensures.1) c.put_power.ensures.1)
                (number_plain c.args.x.minus c.args.x.digits c.args.x.power w.if-x.false),
          )
    ]
