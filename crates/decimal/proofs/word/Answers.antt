-- With a sign, zero, and without a sign.
use Rattle.std.proofs.Common.{rules}
use Rattle.decimal.proofs.Order.{size_under}
use Rattle.decimal.proofs.Signs.{word_minus, word_zero, word_plain}
use Rattle.decimal.proofs.word.Goals as goal
use Rattle.decimal.proofs.word.Goals.{else-x-via-then-x+else-d-gt0, else-x-via-else-x}

pub overflow_add-result : goal.overflow_add-result
overflow_add-result c =
    let h = size_under c.args.x.digits c.args.x.power (search rules) (search rules) in search rules

pub returns-then-d-gt0 : goal.returns-then-d-gt0
returns-then-d-gt0 c =
    word_minus c.args.x.minus c.args.x.digits c.args.x.power _ (search rules) (search rules) (search rules)
    (search rules) (search rules)

pub returns-else-x : goal.returns-else-x
returns-else-x c =
    elim c.else-x.branch [
      | else-x-via-then-x+else-d-gt0 w ↦ word_zero c.args.x.minus c.args.x.digits c.args.x.power _ (search rules)
          (search rules) (search rules) (search rules)
      | else-x-via-else-x w ↦ word_plain c.args.x.minus c.args.x.digits c.args.x.power _ (search rules) (search rules)
          (search rules) (search rules)
    ]
