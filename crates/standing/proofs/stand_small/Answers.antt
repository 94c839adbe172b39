-- `stand_small` has every total as it would stand.
use Rattle.small.proofs.OfSlices.Passing.{passing_more, stood_all}
use Rattle.standing.proofs.Small.{node_small, sum_inside, sum_held}
use Rattle.standing.proofs.stand_small.Goals as goal

pub loop-k-preserved : goal.loop-k-preserved
loop-k-preserved c =
    let n = node_small c.requires.small c.loop-k.k c.loop-k-test.true in
    passing_more _ c.loop-k-test.true (sum_held n c.stand_near.ensures) (sum_inside n) c.loop-k.invariant

pub returns : goal.returns
returns c = stood_all c.args.totals.now c.args.coming.now c.args.going.now c.loop-k-test.false c.loop-k.invariant
