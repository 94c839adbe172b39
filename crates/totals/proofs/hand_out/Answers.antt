-- `hand_out` gives what every role has.
use mathlib.Core.Path.{◌≡◌}
use Prim.Native.Nat.{ℕ}
use native.Mathlib.Omega.{arith}
use lib.ListN.{get_or}
use lib.IntN.{pos}
use Rattle.ends.specs.OfTerms.Rows.{roles}
use Rattle.whole.specs.laws.Machine.{held, held_is}
use Rattle.totals.proofs.Amounts.{spread_none, spread_more, room_next}
use Rattle.totals.proofs.hand_out.Goals as goal

pub loop-k-init : goal.loop-k-init
loop-k-init c = spread_none _ _ _ c.requires.1.long

pub add-requires : goal.add-requires
add-requires c =
    let z = get_or c.args.a.now c.loop-k.k (pos 0) in
    let b = c.requires.2.within c.loop-k.k in
    let e : held z ≡ z = held_is _ (omega arith) in
    room_next _ (λ (r : ℕ). get_or c.args.a.now r (pos 0)) _ _ c.requires.0 c.requires.1 c.requires.2.within
    c.loop-k-test.true e c.loop-k.invariant

pub loop-k-preserved : goal.loop-k-preserved
loop-k-preserved c =
    let z = get_or c.args.a.now c.loop-k.k (pos 0) in
    let b = c.requires.2.within c.loop-k.k in
    let e : held z ≡ z = held_is _ (omega arith) in
    spread_more _ (λ (r : ℕ). get_or c.args.a.now r (pos 0)) _ _ c.loop-k.invariant e c.add.ensures

pub returns : goal.returns
returns c = let e : c.loop-k.k ≡ roles = omega arith in rw e at c.loop-k.invariant
