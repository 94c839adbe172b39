-- `first_over` finds the first row that overloads, or none.
use lib.ListN.{get_or}
use Rattle.rows.proofs.Tests.{none_above, first_above, second_above}
use Rattle.outcome.proofs.Loops.{looked_none, over_ticks_lem, over_injection, looked_more, looked_all}
use Rattle.outcome.proofs.first_over.Goals as goal

pub loop-k-init : goal.loop-k-init
loop-k-init c = looked_none

pub returns-then-x-k-gt-TICKS_MOST : goal.returns-then-x-k-gt-TICKS_MOST
returns-then-x-k-gt-TICKS_MOST c =
    over_ticks_lem c.loop-k.invariant c.loop-k-test.true
    (first_above _ _ (get_or c.args.x.minus c.loop-k.k 0) c.if-x-k-gt-TICKS_MOST.true)

pub returns-then-x-k-gt-TICKS_MOST-2 : goal.returns-then-x-k-gt-TICKS_MOST-2
returns-then-x-k-gt-TICKS_MOST-2 c =
    over_ticks_lem c.loop-k.invariant c.loop-k-test.true
    (second_above _ _ _ c.if-x-k-gt-TICKS_MOST.false c.if-x-k-gt-TICKS_MOST-2.true)

pub returns-then-x-k-gt-PARTS_MOST : goal.returns-then-x-k-gt-PARTS_MOST
returns-then-x-k-gt-PARTS_MOST c =
    over_injection c.loop-k.invariant c.loop-k-test.true
    (none_above _ _ _ c.if-x-k-gt-TICKS_MOST.false c.if-x-k-gt-TICKS_MOST-2.false)
    (first_above _ _ (get_or c.args.x.right c.loop-k.k 0) c.if-x-k-gt-PARTS_MOST.true)

pub returns-then-x-k-gt-PARTS_MOST-2 : goal.returns-then-x-k-gt-PARTS_MOST-2
returns-then-x-k-gt-PARTS_MOST-2 c =
    over_injection c.loop-k.invariant c.loop-k-test.true
    (none_above _ _ _ c.if-x-k-gt-TICKS_MOST.false c.if-x-k-gt-TICKS_MOST-2.false)
    (second_above _ _ _ c.if-x-k-gt-PARTS_MOST.false c.if-x-k-gt-PARTS_MOST-2.true)

pub loop-k-preserved : goal.loop-k-preserved
loop-k-preserved c =
    looked_more c.loop-k.invariant c.loop-k-test.true
    (none_above _ _ _ c.if-x-k-gt-TICKS_MOST.false c.if-x-k-gt-TICKS_MOST-2.false)
    (none_above _ _ _ c.if-x-k-gt-PARTS_MOST.false c.if-x-k-gt-PARTS_MOST-2.false)

pub returns : goal.returns
returns c = looked_all c.loop-k-test.false c.loop-k.invariant
