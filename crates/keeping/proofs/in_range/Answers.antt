-- `in_range` finds one voltage outside its range, or none.
use mathlib.Core.Path.{◌≡◌}
use Prim.Native.Nat.{◌<◌}
use native.Mathlib.Omega.{arith}
use lib.ListN.{get_or}
use lib.IntN.{pos}
use borrow.Author.Rules.{rules}
use Rattle.whole.specs.laws.Machine.{held}
use Rattle.volts.specs.laws.Keeping.{outside_is}
use Rattle.slices.specs.OfTotals.Gives.{nodes_most}
use Rattle.slices.proofs.Passing.{all_on, one_off}
use Rattle.keeping.proofs.in_range.Goals as goal

pub returns-in_default : goal.returns-in_default
returns-in_default c =
    let z = get_or c.args.volts.now c.loop-v.v-index (pos 0) in
    let same : held z ≡ z = search rules in
    let here : c.loop-v.v-index < nodes_most = omega arith in
    one_off c.args.volts.now c.requires c.loop-v.v-index here (outside_is same c.keep.ensures c.in_default.is)

pub returns : goal.returns
returns c = all_on c.args.volts.now c.requires (omega arith) c.loop-v.invariant
