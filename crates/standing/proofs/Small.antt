-- What three small numbers are together.
use mathlib.Core.Path.{◌≡◌, ap, ap₂, ◌∙◌}
use mathlib.Core.Bool.{Bool, false, ◌||◌}
use mathlib.Core.List.{List}
use Prim.Native.Nat.{ℕ, ◌+◌, ◌*◌, ◌-◌, ◌≤◌, ◌<◌}
use native.Mathlib.Omega.{arith}
use lib.ListN.{get_or}
use mir.Syntax.{w64}
use mir.Val.{SFits}
use mathlib.Core.Logic.{◌⊎◌, inl, inr}
use Rattle.whole.specs.laws.Biased.{below_or_not}
use lib.IntN.{ℤ, pos, negsuc, nat_abs, neg_ℤ, ◌+ℤ◌, ◌-ℤ◌}
use borrow.Author.Tests.{lt-leb, le-ltb}
use Rattle.whole.specs.Signed.{signed_span}
use Rattle.whole.specs.laws.Machine.{abs_neg, held, held_is}
use Rattle.totals.specs.Gives.{nodes_most}
use Rattle.totals.proofs.Integers.{abs_add}
use Rattle.small.specs.OfSlices.Slices.{outside64}
use Rattle.small.specs.inner.Small.{small_most, Small, SmallNode, AllSmall}

-- those of a node, of all that are small
pub node_small : {totals coming going : List ℤ} → AllSmall totals coming going → (k : ℕ) → k < nodes_most →
    SmallNode (get_or totals k (pos 0)) (get_or coming k (pos 0)) (get_or going k (pos 0))
node_small s k h =
    record {
      total_small = s.totals_small.each k h;
      coming_small = s.near.coming_small.each k h;
      going_small = s.near.going_small.each k h;
    }

inside : (z : ℤ) → nat_abs z < signed_span → outside64 z ≡ false
inside (pos n) h = ap (λ (t : Bool). t || false) (lt-leb signed_span n h)
inside (negsuc n) h = le-ltb (signed_span - 1) n (omega arith)

small_held : {v : ℤ} → Small v → held v ≡ v
small_held {v} s = let l = s.size in held_is v (omega arith)

module _ {t i o : ℤ} (s : SmallNode t i o) where
  change_near : nat_abs (i -ℤ o) ≤ 2 * small_most
  change_near =
      let a = s.coming_small.size in
      let b = s.going_small.size in
      let n = abs_neg o in
      let l = abs_add i (neg_ℤ o) in
      omega arith

  sum_near : nat_abs (t +ℤ (i -ℤ o)) < signed_span
  sum_near =
      let a = s.total_small.size in
      let b = change_near in
      let l = abs_add t (i -ℤ o) in
      omega arith

  change : held i -ℤ held o ≡ i -ℤ o
  change = ap₂ ◌-ℤ◌ (small_held s.coming_small) (small_held s.going_small)

  pub sum_inside : outside64 (t +ℤ (i -ℤ o)) ≡ false
  sum_inside = inside (t +ℤ (i -ℤ o)) sum_near

  -- and of the sum as it is written
  pub sum_held : {r : ℤ} → r ≡ held t +ℤ (held i -ℤ held o) → held r ≡ t +ℤ (i -ℤ o)
  sum_held e =
      ap held (e ∙ ap₂ ◌+ℤ◌ (small_held s.total_small) change) ∙ held_is (t +ℤ (i -ℤ o)) sum_near

-- ---- the first k numbers were read, and are in their range

abbrev pub Read : List ℤ → ℕ → Type 0
Read totals k = (i : ℕ) → i < k → SFits w64 (get_or totals i (pos 0))

pub one_more : (totals : List ℤ) (k : ℕ) → SFits w64 (get_or totals k (pos 0)) → Read totals k → Read totals (k + 1)
one_more totals k f r i h = go (below_or_not i k)
  where
    go : (i < k) ⊎ (k ≤ i) → SFits w64 (get_or totals i (pos 0))
    go (inl b) = r i b
    go (inr b) = let same : i ≡ k = omega arith in rw same f
