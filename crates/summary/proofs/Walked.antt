-- The places of a set gone through, with something worked from what is told of those passed.
use mathlib.Core.Path.{◌≡◌, refl, sym, ap, ◌∙◌}
use mathlib.Core.Bool.{Bool, true, false, cond}
use mathlib.Core.List.{List, [], ◌∷◌}
use Prim.Native.Nat.{ℕ, suc, ◌+◌, ◌≤◌, ◌<◌, zero-le}
use native.Mathlib.Omega.{arith}
use lib.Dec.{eqb, leb}
use lib.ListN.{length}
use borrow.Author.Tests.{leb-true, leb-false}
use Rattle.refusal.specs.Clash.{clash}
use Rattle.given.specs.Lists.{any_of, different}
use Rattle.places.specs.Counts.{transistors_most}
use Rattle.places.specs.Sets.{member, list_of}
use Rattle.places.specs.inner.Parts.{NextIn}
use Rattle.places.specs.laws.Walks.{At, walk_starts, walk_goes, list_few}

module _ {A : Type 0} (set : ℕ) (f : ℕ → ℕ) (g : List ℕ → A) where
  pub record Walked (i : ℕ) (a : A) : Type 0 where
    pub at : At set i
    pub is : a ≡ g (list_of (member set) f i)

  pub walked_none : {i : ℕ} {a : A} → NextIn set 0 i → a ≡ g [] → Walked i a
  walked_none n e = let w = walk_starts f n in record { at = w.0; is = e ∙ ap g w.1 }

  pub walked_more : {i j : ℕ} {a b : A} → Walked i a → i < transistors_most → NextIn set (i + 1) j →
      (a ≡ g (list_of (member set) f i) → b ≡ g (f i ∷ list_of (member set) f i)) → Walked j b
  walked_more w h n step = let m = walk_goes f w.at h n in record { at = m.0; is = step w.is ∙ ap g m.1 }

-- a place of the set is not passed over
pub next_upto : {set from i j : ℕ} → NextIn set from j → from ≤ i → member set i ≡ true → j ≤ i
next_upto {set} {from} {i} {j} n h e = go (leb j i) refl
  where
    go : (t : Bool) → leb j i ≡ t → j ≤ i
    go true q = leb-true j i q
    go false q = let w : true ≡ false = sym e ∙ n.between i h (leb-false j i q) in clash cc

-- no more differ than there are
different_few : (l : List ℕ) → different l ≤ length l
unfolding different
different_few [] = zero-le
different_few (n ∷ ns) = go (any_of (eqb n) ns) (different_few ns)
  where
    go : (t : Bool) → different ns ≤ length ns → cond t (different ns) (suc (different ns)) ≤ suc (length ns)
    go true h = omega arith
    go false h = omega arith

pub count_few : (set : ℕ) (f : ℕ → ℕ) {i count : ℕ} → Walked set f different i count → i < transistors_most →
    count < transistors_most
count_few set f {i} w h =
    let d = different_few (list_of (member set) f i) in
    let l = list_few (member set) f i in
    let e = w.is in omega arith
