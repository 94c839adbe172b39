use Rattle.std.proofs.Common.{refl, ◌∙◌}
use Rattle.given.specs.Lists.{larger, largest}
use Rattle.model.specs.Largest.{size_at}
use Rattle.summary.proofs.Walked.{walked_none, walked_more}
use Rattle.given.specs.laws.Larger.{max_larger}
use Rattle.summary.proofs.largest_in.Goals as goal

pub loop-i-init : goal.loop-i-init
unfolding largest
loop-i-init c = walked_none _ _ _ c.next_in-i.ensures refl

pub loop-i-preserved : goal.loop-i-preserved
unfolding largest
loop-i-preserved c =
    let on = c.nodes_at-on.ensures in
    let own = c.currents_at-own.ensures in
    walked_more _ _ _ c.loop-i.invariant c.loop-i-test.true c.next_in-i-in-loop-i.ensures
    (λ e. c.max-most.ensures ∙ max_larger _ _
    ∙ (λ j. larger ((c.largest_at.ensures ∙ (λ k. size_at c.args.n (on k) (own k))) j) (e j)))
