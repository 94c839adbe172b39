-- `keep_slice` keeps every voltage, or finds one outside its range.
use mathlib.Core.Path.{◌≡◌, ◌∙◌}
use Prim.Native.Nat.{◌<◌}
use native.Mathlib.Omega.{arith}
use lib.ListN.{get_or}
use lib.IntN.{pos}
use borrow.Author.Rules.{rules}
use Rattle.whole.specs.laws.Machine.{held}
use Rattle.volts.specs.laws.Keeping.{outside_is}
use Rattle.slices.specs.OfTotals.Gives.{nodes_most}
use Rattle.slices.proofs.Passing.{kept_all, kept_none}
use Rattle.keeping.proofs.keep_slice.Goals as goal

pub returns-in_err-kept : goal.returns-in_err-kept
returns-in_err-kept c =
    let z = get_or c.args.volts.now c.loop-k.k (pos 0) in
    let same : held z ≡ z = search rules in
    let here : c.loop-k.k < nodes_most = omega arith in
    c.from_residual.ensures
    ∙ kept_none c.args.volts.now c.requires c.loop-k.k here (outside_is same c.keep.ensures c.in_err-kept.was)

pub returns : goal.returns
returns c = kept_all c.args.volts.now c.requires (omega arith) c.loop-k.invariant
