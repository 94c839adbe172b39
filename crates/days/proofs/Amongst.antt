-- Who is in a list: in any order, on the places of a board, and among what each element of a list gives.
use mathlib.Core.Path.{◌≡◌, refl, sym, ap, ◌∙◌, subst}
use mathlib.Core.Bool.{Bool, true, false, not}
use mathlib.Core.List.{List, [], ◌∷◌, ◌++◌}
use mathlib.Core.Logic.{◌⊎◌, inl, inr}
use Prim.Native.Nat.{ℕ, zero, suc, ◌≤◌, ◌<◌}
use native.Mathlib.Omega.{arith}
use lib.Dec.{eqb}
use lib.ListN.{length, get_or}
use borrow.Author.Tests.{eqb-false, eq-eqb, ne_eqb}
use Rattle.given.specs.Lists.{keep_if}
use Rattle.model.specs.Faults.{Fault, faults_among}
use Rattle.days.specs.Perm.{Perm, empty, keep, swap, then}
use Rattle.days.specs.Stands.{occupied}
use Rattle.days.specs.Told.{Among}
use Rattle.days.proofs.Perms.{count, more}

pub among_none : {A : Type 0} (l : List A) → ((a : A) → Among a l → ⊥) → l ≡ []
among_none [] h = refl
among_none (a ∷ l) h = absurd (h a (inl refl))

-- ---- in any order

module _ {A : Type 0} (a : A) where
  pub perm_in : {xs ys : List A} → Perm xs ys → Among a xs → Among a ys
  perm_in empty m = m
  perm_in (keep p) (inl e) = inl e
  perm_in (keep p) (inr m) = inr (perm_in p m)
  perm_in swap (inl e) = inr (inl e)
  perm_in swap (inr (inl e)) = inl e
  perm_in swap (inr (inr m)) = inr (inr m)
  perm_in (then p q) m = perm_in q (perm_in p m)

  pub perm_back : {xs ys : List A} → Perm xs ys → Among a ys → Among a xs
  perm_back empty m = m
  perm_back (keep p) (inl e) = inl e
  perm_back (keep p) (inr m) = inr (perm_back p m)
  perm_back swap (inl e) = inr (inl e)
  perm_back swap (inr (inl e)) = inl e
  perm_back swap (inr (inr m)) = inr (inr m)
  perm_back (then p q) m = perm_back p (perm_back q m)

-- ---- of a key that at most one has

module _ {A : Type 0} (key : A → ℕ) (n : ℕ) where
  pub counted : (b : A) (l : List A) → Among b l → key b ≡ n → 1 ≤ count (λ (a : A). eqb (key a) n) l
  unfolding count
  counted b [] m e = absurd m
  counted b (a ∷ l) (inl p) e = rw (eq-eqb (key a) n (ap key (sym p) ∙ e)) (omega arith)
  counted b (a ∷ l) (inr m) e = let h = counted b l m e in go (eqb (key a) n) h
    where
      go : (t : Bool) → 1 ≤ count (λ (x : A). eqb (key x) n) l → 1 ≤ more t (count (λ (x : A). eqb (key x) n) l)
      go true h = omega arith
      go false h = h

  pub single_same : (l : List A) (a b : A) → count (λ (x : A). eqb (key x) n) l ≤ 1 → Among a l → Among b l →
      key a ≡ n → key b ≡ n → a ≡ b
  unfolding count
  single_same [] a b s p q e f = absurd p
  single_same (x ∷ l) a b s (inl p) (inl q) e f = p ∙ sym q
  single_same (x ∷ l) a b s (inl p) (inr q) e f =
      let h = counted b l q f in
      let k : suc (count (λ (y : A). eqb (key y) n) l) ≤ 1 = rw (eq-eqb (key x) n (ap key (sym p) ∙ e)) at s in
      absurd (omega arith)
  single_same (x ∷ l) a b s (inr p) (inl q) e f =
      let h = counted a l p e in
      let k : suc (count (λ (y : A). eqb (key y) n) l) ≤ 1 = rw (eq-eqb (key x) n (ap key (sym q) ∙ f)) at s in
      absurd (omega arith)
  single_same (x ∷ l) a b s (inr p) (inr q) e f = single_same l a b (go (eqb (key x) n) s) p q e f
    where
      go : (t : Bool) → more t (count (λ (y : A). eqb (key y) n) l) ≤ 1 → count (λ (y : A). eqb (key y) n) l ≤ 1
      go true h = omega arith
      go false h = h

-- ---- on places

module _ {A B : Type 0} (key : A → ℕ) (f : A → B) (d : A) where
  kept_in : (t : Bool) (a : A) (b : B) (l : List B) → Among b l → Among b (keep_if t (f a) l)
  kept_in true a b l m = inr m
  kept_in false a b l m = m

  pub in_occupied : (l : List A) (i : ℕ) → i < length l → (key (get_or l i d) ≡ 0 → ⊥) →
      Among (f (get_or l i d)) (occupied key f l)
  unfolding occupied
  in_occupied [] i h n = absurd (omega arith)
  in_occupied (a ∷ l) zero h n = rw (ne_eqb (key a) 0 n) (inl refl)
  in_occupied (a ∷ l) (suc i) h n =
      kept_in (not (eqb (key a) 0)) a (f (get_or l i d)) (occupied key f l) (in_occupied l i (omega arith) n)

  -- the place of one that stands
  pub record Place (b : B) (l : List A) : Type 0 where
    pub at : ℕ
    pub below : at < length l
    pub stands : key (get_or l at d) ≡ 0 → ⊥
    pub is : b ≡ f (get_or l at d)

  pub of_occupied : (b : B) (l : List A) → Among b (occupied key f l) → Place b l
  unfolding occupied
  of_occupied b [] m = absurd m
  of_occupied b (a ∷ l) m = go (eqb (key a) 0) refl m (λ p. of_occupied b l p)
    where
      later : Place b l → Place b (a ∷ l)
      later p =
          let h = p.below in
          record { at = suc p.at; below = omega arith; stands = p.stands; is = p.is }

      go : (t : Bool) → eqb (key a) 0 ≡ t → Among b (keep_if (not t) (f a) (occupied key f l)) →
          (Among b (occupied key f l) → Place b l) → Place b (a ∷ l)
      go true e m next = later (next m)
      go false e (inl p) next =
          record { at = 0; below = omega arith; stands = eqb-false (key a) 0 e; is = p }
      go false e (inr m) next = later (next m)

-- ---- among what each gives

in_joined : (g : Fault) (l m : List Fault) → Among g m → Among g (l ++ m)
in_joined g [] m p = p
in_joined g (x ∷ l) m p = inr (in_joined g l m p)

in_first : (g : Fault) (l m : List Fault) → Among g l → Among g (l ++ m)
in_first g [] m p = absurd p
in_first g (x ∷ l) m (inl e) = inl e
in_first g (x ∷ l) m (inr p) = inr (in_first g l m p)

of_joined : (g : Fault) (l m : List Fault) → Among g (l ++ m) → Among g l ⊎ Among g m
of_joined g [] m p = inr p
of_joined g (x ∷ l) m (inl e) = inl (inl e)
of_joined g (x ∷ l) m (inr p) = go (of_joined g l m p)
  where
    go : Among g l ⊎ Among g m → Among g (x ∷ l) ⊎ Among g m
    go (inl q) = inl (inr q)
    go (inr q) = inr q

module _ {A : Type 0} (faults : A → List Fault) (g : Fault) where
  pub in_among : (a : A) (l : List A) → Among a l → Among g (faults a) → Among g (faults_among faults l)
  unfolding faults_among
  in_among a [] p m = absurd p
  in_among a (b ∷ l) (inl e) m = in_first g (faults b) _ (subst (λ (x : A). Among g (faults x)) e m)
  in_among a (b ∷ l) (inr p) m = in_joined g (faults b) _ (in_among a l p m)

  pub record Giver (l : List A) : Type 0 where
    pub who : A
    pub in_list : Among who l
    pub gives : Among g (faults who)

  pub of_among : (l : List A) → Among g (faults_among faults l) → Giver l
  unfolding faults_among
  of_among [] m = absurd m
  of_among (a ∷ l) m = go (of_joined g (faults a) (faults_among faults l) m) (λ p. of_among l p)
    where
      go : Among g (faults a) ⊎ Among g (faults_among faults l) → (Among g (faults_among faults l) → Giver l) →
          Giver (a ∷ l)
      go (inl p) next = record { who = a; in_list = inl refl; gives = p }
      go (inr p) next = let r = next p in record { who = r.who; in_list = inr r.in_list; gives = r.gives }
