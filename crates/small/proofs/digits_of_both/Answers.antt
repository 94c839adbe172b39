-- `digits_of_both` has the digits of every number of either list.
use Rattle.std.proofs.Common.{◌≡◌, get_or, pos, rules}
use Rattle.whole.specs.laws.Machine.{held}
use Rattle.small.proofs.Small.{small_none, small_beside, small_more, small_all}
use Rattle.small.proofs.digits_of_both.Goals as goal

pub loop-k-init : goal.loop-k-init
loop-k-init c = (small_none, small_none)

pub loop-k-preserved : goal.loop-k-preserved
loop-k-preserved c =
    let a = get_or c.args.coming.now c.loop-k.k (pos 0) in
    let b = get_or c.args.going.now c.loop-k.k (pos 0) in
    let i : held a ≡ a = search rules in
    let o : held b ≡ b = search rules in (
      small_beside _ (small_more i c.around.ensures c.loop-k.invariant.0),
      small_more o c.around-in-loop-k.ensures (small_beside _ c.loop-k.invariant.1),
    )

pub returns : goal.returns
returns c = λ b. record {
  coming_small = small_all c.loop-k-test.false c.loop-k.invariant.0 b;
  going_small = small_all c.loop-k-test.false c.loop-k.invariant.1 b;
}
