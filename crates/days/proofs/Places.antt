-- Places and what stands on them: a place whose key is 0 is empty, and the others, in order, are the list that the
-- desk knows.
use mathlib.Core.Path.{◌≡◌, refl, sym, ap, ◌∙◌, subst}
use mathlib.Core.Bool.{Bool, true, false, cond, not, ◌||◌}
use mathlib.Core.List.{List, [], ◌∷◌}
use Prim.Native.Nat.{ℕ, suc, ◌≤◌, ◌<◌, zero-le}
use native.Mathlib.Omega.{arith}
use lib.Dec.{T, eqb, leb, ltb, leb-suc-suc}
use lib.ListN.{length, get_or, set}
use lib.IntN.{ℤ, pos, ◌+ℤ◌, +ℤ_idl}
use borrow.Author.Tests.{eqb-true, eqb-false, eq-eqb, ne_eqb, lt-leb, lt-ltb}
use Rattle.totals.specs.Flow.{sum_over}
use Rattle.given.specs.Lists.{any_of}
use Rattle.given.specs.Lists.{keep_if}
use Rattle.model.specs.Desk.{first_with, without}
use Rattle.given.specs.Arguments.{none, some}
use Rattle.places.specs.Finding.{first, found_at}
use Rattle.days.specs.Stands.{occupied, map_found}
use Rattle.days.specs.Perm.{Perm, keep, swap, then}
use Rattle.days.proofs.Perms.{count, more, perm_self}

module _ {A B : Type 0} (key : A → ℕ) (f : A → B) where
  -- a sum, and a search, over all places
  pub sum_occupied : (g : B → ℤ) (l : List A) →
      sum_over g (occupied key f l) ≡ sum_over (λ (a : A). cond (eqb (key a) 0) (pos 0) (g (f a))) l
  unfolding occupied sum_over
  sum_occupied g [] = refl
  sum_occupied g (a ∷ rest) = go (eqb (key a) 0) (sum_occupied g rest)
    where
      go : (t : Bool) {s : ℤ} → sum_over g (occupied key f rest) ≡ s →
          sum_over g (keep_if (not t) (f a) (occupied key f rest)) ≡ cond t (pos 0) (g (f a)) +ℤ s
      go true e = e ∙ sym (+ℤ_idl _)
      go false e = ap (λ (z : ℤ). g (f a) +ℤ z) e

  pub any_occupied : (p : B → Bool) (l : List A) →
      any_of p (occupied key f l) ≡ any_of (λ (a : A). cond (eqb (key a) 0) false (p (f a))) l
  unfolding occupied any_of
  any_occupied p [] = refl
  any_occupied p (a ∷ rest) = go (eqb (key a) 0) (any_occupied p rest)
    where
      go : (t : Bool) {s : Bool} → any_of p (occupied key f rest) ≡ s →
          any_of p (keep_if (not t) (f a) (occupied key f rest)) ≡ cond t false (p (f a)) || s
      go true e = e
      go false e = ap (λ (z : Bool). p (f a) || z) e

  few : (l : List A) → length (occupied key f l) ≤ length l
  unfolding occupied
  few [] = zero-le
  few (a ∷ rest) = go (not (eqb (key a) 0)) (few rest)
    where
      go : (t : Bool) → length (occupied key f rest) ≤ length rest →
          length (keep_if t (f a) (occupied key f rest)) ≤ suc (length rest)
      go true h = omega arith
      go false h = omega arith

  -- no place is free exactly where as many stand as there are places
  pub full : (l : List A) →
      leb (length l) (first (λ (a : A). eqb (key a) 0) l) ≡ leb (length l) (length (occupied key f l))
  unfolding occupied first
  full [] = refl
  full (a ∷ rest) = go (eqb (key a) 0) (full rest)
    where
      go : (t : Bool) →
          leb (length rest) (first (λ (b : A). eqb (key b) 0) rest) ≡ leb (length rest) (length (occupied key f rest)) →
          leb (suc (length rest)) (cond t 0 (suc (first (λ (b : A). eqb (key b) 0) rest))) ≡ leb (suc (length rest))
          (length (keep_if (not t) (f a) (occupied key f rest)))
      go true e =
          let h = few rest in
          lt-leb (suc (length rest)) 0 (omega arith)
          ∙ sym (lt-leb (suc (length rest)) (length (occupied key f rest)) (omega arith))
      go false e =
          leb-suc-suc (length rest) (first (λ (b : A). eqb (key b) 0) rest)
          ∙ e
          ∙ sym (leb-suc-suc (length rest) (length (occupied key f rest)))

  -- a newcomer on the first free place
  pub join : (l : List A) (x : A) → (key x ≡ 0 → ⊥) → first (λ (a : A). eqb (key a) 0) l < length l →
      Perm (occupied key f (set l (first (λ (a : A). eqb (key a) 0) l) x)) (f x ∷ occupied key f l)
  unfolding occupied first
  join [] x n h = absurd (omega arith)
  join (a ∷ rest) x n h = go (eqb (key a) 0) refl h (λ k. join rest x n k)
    where
      go : (t : Bool) → eqb (key a) 0 ≡ t → cond t 0 (suc (first (λ (b : A). eqb (key b) 0) rest)) < suc (length rest) →
          (first (λ (b : A). eqb (key b) 0) rest < length rest → Perm
          (occupied key f (set rest (first (λ (b : A). eqb (key b) 0) rest) x)) (f x ∷ occupied key f rest)) →
          Perm (occupied key f (set (a ∷ rest) (cond t 0 (suc (first (λ (b : A). eqb (key b) 0) rest))) x))
          (f x ∷ keep_if (not t) (f a) (occupied key f rest))
      go true e h next = rw (ne_eqb (key x) 0 n) (perm_self _)
      go false e h next = rw e (then (keep (next (omega arith))) swap)

  -- the same seen through another function that agrees on what stands
  pub seen : (g : A → B) (d : A) (l : List A) →
      ((i : ℕ) → i < length l → (key (get_or l i d) ≡ 0 → ⊥) → f (get_or l i d) ≡ g (get_or l i d)) →
      occupied key f l ≡ occupied key g l
  unfolding occupied
  seen g d [] h = refl
  seen g d (a ∷ rest) h =
      go (eqb (key a) 0) refl (seen g d rest (λ i k z. h (suc i) (omega arith) z)) (h 0 (omega arith))
    where
      go : (t : Bool) → eqb (key a) 0 ≡ t → occupied key f rest ≡ occupied key g rest →
          ((key a ≡ 0 → ⊥) → f a ≡ g a) →
          keep_if (not t) (f a) (occupied key f rest) ≡ keep_if (not t) (g a) (occupied key g rest)
      go true e p q = p
      go false e p q = rw (q (eqb-false (key a) 0 e), p)

  -- and in another list of as many, of which key and f say the same place by place
  pub alike : (d : A) (l m : List A) → length l ≡ length m →
      ((i : ℕ) → i < length l → (key (get_or l i d) ≡ key (get_or m i d)) × (f (get_or l i d) ≡ f (get_or m i d))) →
      occupied key f l ≡ occupied key f m
  unfolding occupied
  alike d [] [] e h = refl
  alike d [] (b ∷ m) e h = absurd (omega arith)
  alike d (a ∷ l) [] e h = absurd (omega arith)
  alike d (a ∷ l) (b ∷ m) e h =
      let here = h 0 (omega arith) in
      rw (here.0, here.1, alike d l m (omega arith) (λ i k. h (suc i) (omega arith)))

-- nothing stands under the key 0
pub find_none : {A B : Type 0} (key : A → ℕ) (f : A → B) (id : B → ℕ) → ((a : A) → id (f a) ≡ key a) → (l : List A) →
    first_with (λ (b : B). eqb (id b) 0) (occupied key f l) ≡ none
unfolding occupied first_with
find_none key f id knows [] = refl
find_none {B = B} key f id knows (a ∷ rest) = go (eqb (key a) 0) refl (find_none key f id knows rest)
  where
    go : (t : Bool) → eqb (key a) 0 ≡ t → first_with (λ (b : B). eqb (id b) 0) (occupied key f rest) ≡ none →
        first_with (λ (b : B). eqb (id b) 0) (keep_if (not t) (f a) (occupied key f rest)) ≡ none
    go true e h = h
    go false e h = rw (knows a, e) h

-- elements that know their key
module _ {A B : Type 0} (key : A → ℕ) (f : A → B) (id : B → ℕ) (knows : (a : A) → id (f a) ≡ key a) (n : ℕ)
    (there : n ≡ 0 → ⊥) where
  -- an empty place has another key
  other : (a : A) → eqb (key a) 0 ≡ true → eqb (key a) n ≡ false
  other a e = let h = eqb-true (key a) 0 e in ne_eqb (key a) n (λ z. there (sym z ∙ h))

  pub count_occupied : (l : List A) →
      count (λ (b : B). eqb (id b) n) (occupied key f l) ≡ count (λ (a : A). eqb (key a) n) l
  unfolding occupied count
  count_occupied [] = refl
  count_occupied (a ∷ rest) = go (eqb (key a) 0) refl (count_occupied rest)
    where
      go : (t : Bool) → eqb (key a) 0 ≡ t →
          count (λ (b : B). eqb (id b) n) (occupied key f rest) ≡ count (λ (a : A). eqb (key a) n) rest →
          count (λ (b : B). eqb (id b) n) (keep_if (not t) (f a) (occupied key f rest)) ≡ more (eqb (key a) n)
          (count (λ (a : A). eqb (key a) n) rest)
      go true e h = rw (other a e) h
      go false e h = rw (knows a, h)

  -- the one with the key, by its place
  pub find : (d : A) (l : List A) →
      first_with (λ (b : B). eqb (id b) n) (occupied key f l) ≡ map_found (λ (i : ℕ). f (get_or l i d))
      (found_at (length l) (first (λ (a : A). eqb (key a) n) l))
  unfolding occupied first first_with
  find d [] = refl
  find d (a ∷ rest) = go (eqb (key a) 0) (eqb (key a) n) refl refl (find d rest)
    where
      shift : (i : ℕ) (t : Bool) →
          map_found (λ (j : ℕ). f (get_or rest j d)) (cond t (some i) none) ≡ map_found
          (λ (j : ℕ). f (get_or (a ∷ rest) j d)) (cond t (some (suc i)) none)
      shift i true = refl
      shift i false = refl

      later : map_found (λ (i : ℕ). f (get_or rest i d)) (found_at (length rest) (first (λ (a : A). eqb (key a) n) rest))
          ≡ map_found (λ (i : ℕ). f (get_or (a ∷ rest) i d)) (found_at (suc (length rest))
          (suc (first (λ (a : A). eqb (key a) n) rest)))
      later =
          let i = first (λ (a : A). eqb (key a) n) rest in
          rw (leb-suc-suc (suc i) (length rest)) (shift i (ltb i (length rest)))

      go : (t u : Bool) → eqb (key a) 0 ≡ t → eqb (key a) n ≡ u →
          first_with (λ (b : B). eqb (id b) n) (occupied key f rest) ≡ map_found (λ (i : ℕ). f (get_or rest i d))
          (found_at (length rest) (first (λ (a : A). eqb (key a) n) rest)) →
          first_with (λ (b : B). eqb (id b) n) (keep_if (not t) (f a) (occupied key f rest)) ≡ map_found
          (λ (i : ℕ). f (get_or (a ∷ rest) i d))
          (found_at (suc (length rest)) (cond u 0 (suc (first (λ (a : A). eqb (key a) n) rest))))
      go true true p q h = let z : ◌≡◌ {A = Bool} true false = sym q ∙ other a p in absurd (subst T z tt)
      go true false p q h = h ∙ later
      go false true p q h = rw (knows a, q, lt-ltb 0 (suc (length rest)) (omega arith))
      go false false p q h = rw (knows a, q) (h ∙ later)

  -- none of that key: nothing is left out
  untouched : (l : List A) → count (λ (a : A). eqb (key a) n) l ≡ 0 → without id n (occupied key f l) ≡ occupied key f l
  unfolding occupied without count
  untouched [] h = refl
  untouched (a ∷ rest) h = go (eqb (key a) 0) (eqb (key a) n) refl h (λ k. untouched rest k)
    where
      go : (t u : Bool) → eqb (key a) n ≡ u → more u (count (λ (a : A). eqb (key a) n) rest) ≡ 0 →
          (count (λ (a : A). eqb (key a) n) rest ≡ 0 → without id n (occupied key f rest) ≡ occupied key f rest) →
          without id n (keep_if (not t) (f a) (occupied key f rest)) ≡ keep_if (not t) (f a) (occupied key f rest)
      go t true q k next = absurd (omega arith)
      go true false q k next = next k
      go false false q k next = rw (knows a, q) (ap (λ (l : List B). f a ∷ l) (next k))

  -- the place of the one with the key becomes empty
  pub leave : (e : A) → key e ≡ 0 → (l : List A) → count (λ (a : A). eqb (key a) n) l ≤ 1 →
      occupied key f (set l (first (λ (a : A). eqb (key a) n) l) e) ≡ without id n (occupied key f l)
  unfolding occupied without count first
  leave e z [] h = refl
  leave e z (a ∷ rest) h = go (eqb (key a) 0) (eqb (key a) n) refl refl h (λ k. leave e z rest k)
    where
      go : (t u : Bool) → eqb (key a) 0 ≡ t → eqb (key a) n ≡ u → more u (count (λ (a : A). eqb (key a) n) rest) ≤ 1 →
          (count (λ (a : A). eqb (key a) n) rest ≤ 1 → occupied key f
          (set rest (first (λ (a : A). eqb (key a) n) rest) e) ≡ without id n (occupied key f rest)) →
          occupied key f (set (a ∷ rest) (cond u 0 (suc (first (λ (a : A). eqb (key a) n) rest))) e) ≡ without id n
          (keep_if (not t) (f a) (occupied key f rest))
      go true true p q k next = let z : ◌≡◌ {A = Bool} true false = sym q ∙ other a p in absurd (subst T z tt)
      go false true p q k next = rw (eq-eqb (key e) 0 z, knows a, q) (sym (untouched rest (omega arith)))
      go true false p q k next = rw p (next k)
      go false false p q k next = rw (p, knows a, q) (ap (λ (l : List B). f a ∷ l) (next k))
