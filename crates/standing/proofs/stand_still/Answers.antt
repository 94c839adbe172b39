-- `stand_still` has read every total.
use native.Mathlib.Omega.{arith}
use lib.ListN.{get_or}
use lib.IntN.{pos}
use mir.Syntax.{w64}
use mir.Val.{SFits}
use borrow.Author.Rules.{rules}
use Rattle.small.proofs.OfSlices.Passing.{still_all}
use Rattle.standing.proofs.Small.{one_more}
use Rattle.standing.proofs.stand_still.Goals as goal

pub loop-total-preserved : goal.loop-total-preserved
loop-total-preserved c =
    let fits : SFits w64 (get_or c.args.totals.now c.loop-total._total-index (pos 0)) = search rules in
    one_more c.args.totals.now c.loop-total._total-index fits c.loop-total.invariant

pub returns : goal.returns
returns c = still_all c.args.totals.now c.requires (λ i h. c.loop-total.invariant i (omega arith))
