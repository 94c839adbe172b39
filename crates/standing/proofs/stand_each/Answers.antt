-- `stand_each` has every total as it would stand, or finds one that leaves.
use mathlib.Core.Path.{◌≡◌, ◌∙◌}
use lib.ListN.{get_or}
use lib.IntN.{pos, ◌+ℤ◌, ◌-ℤ◌}
use borrow.Author.Rules.{rules}
use Rattle.whole.specs.laws.Machine.{held}
use Rattle.small.proofs.OfSlices.Passing.{passing_more, would_at, out_by, in_by, stood_all, stood_none}
use Rattle.standing.proofs.stand_each.Goals as goal
use Rattle.standing.proofs.stand_each.Goals.{After-stand}

-- what `stand` was asked is what would stand there
asked : (c : After-stand) →
    held (get_or c.args.totals.now c.loop-k.k (pos 0))
    +ℤ (held (get_or c.args.coming.now c.loop-k.k (pos 0)) -ℤ held (get_or c.args.going.now c.loop-k.k (pos 0)))
    ≡ would_at c.args.totals.now c.args.coming.now c.args.going.now c.loop-k.k
asked c =
    let a = c.args in
    let t : held (get_or a.totals.now c.loop-k.k (pos 0)) ≡ get_or a.totals.now c.loop-k.k (pos 0) = search rules in
    let i : held (get_or a.coming.now c.loop-k.k (pos 0)) ≡ get_or a.coming.now c.loop-k.k (pos 0) = search rules in
    let o : held (get_or a.going.now c.loop-k.k (pos 0)) ≡ get_or a.going.now c.loop-k.k (pos 0) = search rules in
    λ j. t j +ℤ (i j -ℤ o j)

pub returns-in_err-next : goal.returns-in_err-next
returns-in_err-next c =
    let a = c.args in
    c.from_residual.ensures
    ∙ stood_none a.totals.now a.coming.now a.going.now c.loop-k.k c.loop-k-test.true
    (out_by a.totals.now a.coming.now a.going.now c.loop-k.k (asked (goal.at.returns-in_err-next c).After-stand)
    c.stand.ensures c.in_err-next.was)

pub loop-k-preserved : goal.loop-k-preserved
loop-k-preserved c =
    let a = c.args in
    let is =
    in_by a.totals.now a.coming.now a.going.now c.loop-k.k (asked (goal.at.loop-k-preserved c).After-stand)
    c.stand.ensures c.in_ok-next.was in
    passing_more _ c.loop-k-test.true (is.fits ∙ is.is) is.on c.loop-k.invariant

pub returns : goal.returns
returns c = stood_all c.args.totals.now c.args.coming.now c.args.going.now c.loop-k-test.false c.loop-k.invariant
