-- `roll::doubled` meets its contract: of the names passed none stands twice, and each has its mark.
use Rattle.std.proofs.Common.{arith}
use Rattle.roll.proofs.Doubles.{marks_more, marks_twice}
use Rattle.roll.proofs.doubled.Goals as goal

pub returns-then-again : goal.returns-then-again
returns-then-again c =
    marks_twice c.loop-i.invariant (omega arith) c.u64_at-low.ensures c.u64_at-high.ensures c.slot-k.ensures.0
    c.slot-k.ensures.1 (rw c.is_made.ensures at c.again.ensures) c.if-again.true

pub loop-i-preserved : goal.loop-i-preserved
loop-i-preserved c =
    rw c.make.ensures
    (marks_more c.loop-i.invariant (omega arith) c.u64_at-low.ensures c.u64_at-high.ensures c.slot-k.ensures.0
    c.slot-k.ensures.1 (rw c.is_made.ensures at c.again.ensures) c.if-again.false)
