-- Lists by their places: what holds of each element, and the first place that passes a test.
use mathlib.Core.Path.{◌≡◌, refl}
use mathlib.Core.Bool.{Bool, true, false, cond}
use mathlib.Core.List.{List, [], ◌∷◌}
use Prim.Native.Nat.{ℕ, zero, suc, ◌<◌}
use native.Mathlib.Omega.{arith}
use lib.Dec.{ltb}
use lib.ListN.{length, get_or, set, replicate}
use borrow.Author.Tests.{ltb-true}
use Rattle.refusal.specs.Clash.{clash}
use Rattle.settle.specs.OfGiven.Arguments.{none, some}
use Rattle.settle.specs.OfPlaces.Finding.{first, found_at}

-- what holds of the element at i, and of one put in somewhere, holds of the element at i then
pub each_set : {A : Type 0} (P : A → Type 0) (l : List A) (n i : ℕ) (v d : A) → P v → P (get_or l i d) →
    P (get_or (set l n v) i d)
each_set P [] n i v d p h = h
each_set P (x ∷ l) zero zero v d p h = p
each_set P (x ∷ l) zero (suc i) v d p h = h
each_set P (x ∷ l) (suc n) zero v d p h = h
each_set P (x ∷ l) (suc n) (suc i) v d p h = each_set P l n i v d p h

pub each_replicate : {A : Type 0} (P : A → Type 0) (n i : ℕ) (v d : A) → P v → P d → P (get_or (replicate n v) i d)
each_replicate P zero i v d p q = q
each_replicate P (suc n) zero v d p q = p
each_replicate P (suc n) (suc i) v d p q = each_replicate P n i v d p q

pub first_passes : {A : Type 0} (p : A → Bool) (d : A) (l : List A) → first p l < length l →
    p (get_or l (first p l) d) ≡ true
unfolding first
first_passes p d [] h = absurd (omega arith)
first_passes p d (a ∷ rest) h = go (p a) refl h (λ k. first_passes p d rest k)
  where
    go : (t : Bool) → p a ≡ t → cond t 0 (suc (first p rest)) < suc (length rest) →
        (first p rest < length rest → p (get_or rest (first p rest) d) ≡ true) →
        p (get_or (a ∷ rest) (cond t 0 (suc (first p rest))) d) ≡ true
    go true e h next = e
    go false e h next = next (omega arith)

pub found_is : (most i j : ℕ) → found_at most i ≡ some j → (j ≡ i) × (i < most)
found_is most i j e = go (ltb i most) refl e
  where
    go : (t : Bool) → ltb i most ≡ t → cond t (some i) none ≡ some j → (j ≡ i) × (i < most)
    go true p q = (cc, ltb-true i most p)
    go false p q = clash cc

-- what is not the default stands in the list
pub stands : {A : Type 0} (key : A → ℕ) (d : A) (l : List A) (i : ℕ) → key d ≡ 0 → (key (get_or l i d) ≡ 0 → ⊥) →
    i < length l
stands key d [] i z h = absurd (h z)
stands key d (a ∷ rest) zero z h = omega arith
stands key d (a ∷ rest) (suc i) z h = let k = stands key d rest i z h in omega arith
