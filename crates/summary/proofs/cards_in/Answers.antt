use Rattle.std.proofs.Common.{rules, refl, arith}
use Rattle.given.specs.Lists.{different}
use Rattle.summary.proofs.Walked.{walked_none, walked_more, count_few}
use Rattle.summary.proofs.cards_in.Goals as goal
use Rattle.summary.proofs.cards_in.Goals.{then-not-is_again, else-not-is_again}

pub loop-i-init : goal.loop-i-init
unfolding different
loop-i-init c = walked_none _ _ _ c.next_in-i.ensures refl

pub overflow_add-count : goal.overflow_add-count
overflow_add-count c = record { fits = let f = count_few _ _ c.loop-i.invariant c.loop-i-test.true in omega arith }

pub loop-i-preserved : goal.loop-i-preserved
unfolding different
loop-i-preserved c =
    walked_more _ _ _ c.loop-i.invariant c.loop-i-test.true c.next_in-i-in-loop-i.ensures
    (λ e. elim c.if-not-is_again.branch [
      | then-not-is_again w ↦ search rules
      | else-not-is_again w ↦ search rules
    ])
