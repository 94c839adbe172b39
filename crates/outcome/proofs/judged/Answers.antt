-- None overloads where no digits are beyond the limits.
use mathlib.Core.Path.{sym}
use Rattle.outcome.proofs.RowLaws.{low_within}
use Rattle.outcome.proofs.judged.Goals as goal

pub returns-then-all_digits-le-TICKS_MOST : goal.returns-then-all_digits-le-TICKS_MOST
returns-then-all_digits-le-TICKS_MOST c =
    sym
    (low_within _ c.all_digits-then-all_digits-le-PARTS_MOST.ensures c.if-all_digits-le-TICKS_MOST.true
    c.all_digits.ensures c.if-all_digits-le-PARTS_MOST.true)
