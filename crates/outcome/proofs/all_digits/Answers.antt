-- `all_digits` looks at every row's numbers.
use Rattle.outcome.proofs.Loops.{most_none, most_more, most_all}
use Rattle.outcome.proofs.all_digits.Goals as goal

pub loop-k-init : goal.loop-k-init
loop-k-init c = most_none

pub loop-k-preserved : goal.loop-k-preserved
loop-k-preserved c =
    let m = c.digits.ensures in
    let n = c.digits-all.ensures in
    most_more c.loop-k.invariant m.0 m.1 n.0 n.1

pub returns : goal.returns
returns c = most_all c.loop-k-test.false c.loop-k.invariant
