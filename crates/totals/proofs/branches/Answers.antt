-- `branches` gives what every branch carries.
use mathlib.Core.Path.{◌≡◌}
use native.Mathlib.Omega.{arith}
use lib.ListN.{get_or}
use lib.IntN.{pos}
use Rattle.ends.specs.OfTerms.Rows.{branches}
use Rattle.whole.specs.laws.Machine.{held, held_is}
use Rattle.totals.proofs.Amounts.{ends_none, ends_more, fair_next}
use Rattle.totals.proofs.branches.Goals as goal

pub loop-k-init : goal.loop-k-init
loop-k-init c = ends_none _ _ _ _ c.requires.2.long

pub branch-a-requires : goal.branch-a-requires
branch-a-requires c =
    let z = get_or c.args.ticks.now c.loop-k.k (pos 0) in
    let b = c.requires.3.within c.loop-k.k in
    let e : held z ≡ z = held_is _ (omega arith) in
    fair_next _ _ _ _ _ c.requires.0 c.requires.1 c.requires.2 c.requires.3 c.loop-k-test.true e c.loop-k.invariant

pub loop-k-preserved : goal.loop-k-preserved
loop-k-preserved c =
    let z = get_or c.args.ticks.now c.loop-k.k (pos 0) in
    let b = c.requires.3.within c.loop-k.k in
    let e : held z ≡ z = held_is _ (omega arith) in
    ends_more _ _ _ _ _ c.loop-k.invariant e c.branch-a.ensures

pub returns : goal.returns
returns c = let e : c.loop-k.k ≡ branches = omega arith in rw e at c.loop-k.invariant
