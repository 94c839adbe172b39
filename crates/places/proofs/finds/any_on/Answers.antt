-- `any_on` stops at the first transistor on the card.
use mathlib.Core.Path.{◌≡◌, sym, ap, ◌∙◌}
use Prim.Native.Nat.{ℕ}
use native.Mathlib.Omega.{arith}
use lib.ListN.{length, get_or}
use Rattle.deck.specs.laws.Ups.{length_up}
use Rattle.places.specs.Counts.{transistors_most}
use Rattle.places.specs.inner.Flat.{stands_on_at, below}
use Rattle.places.proofs.Scans.{below_at, at_start, goes_on, any_here, any_nowhere}
use Rattle.places.proofs.finds.any_on.Goals as goal
use Rattle.places.proofs.finds.any_on.Goals.{After-is_on}

long : length (below transistors_most) ≡ transistors_most
long = length_up (λ (i : ℕ). i) transistors_most 0

-- what `is_on` says is the test at the loop's place
tested : (c : After-is_on) →
    stands_on_at c.args.n c.args.issues.now c.args.cards.now (get_or (below transistors_most) c.loop-i.i 0)
    ≡ c.is_on.result
tested c =
    ap (stands_on_at c.args.n c.args.issues.now c.args.cards.now)
    (below_at transistors_most c.loop-i.i c.loop-i-test.true) ∙ sym c.is_on.ensures

pub loop-i-init : goal.loop-i-init
loop-i-init c = at_start

pub returns-then-is_on : goal.returns-then-is_on
returns-then-is_on c =
    let h = long in
    any_here 0 (omega arith) (tested (goal.at.returns-then-is_on c).After-is_on ∙ c.if-is_on.true) c.loop-i.invariant

pub loop-i-preserved : goal.loop-i-preserved
loop-i-preserved c =
    let h = long in
    goes_on 0 (omega arith) (tested (goal.at.loop-i-preserved c).After-is_on ∙ c.if-is_on.false) c.loop-i.invariant

pub returns : goal.returns
returns c = let h = long in any_nowhere (omega arith) c.loop-i.invariant
