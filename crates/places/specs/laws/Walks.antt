-- Going through the places of a set one after the other: what has been told of those passed.
use Rattle.std.specs.Prelude.{◌≡◌, refl, Bool, true, false, cond, [], ◌∷◌, ℕ, zero, suc, ◌+◌, ◌*◌, ◌^◌, ◌≤◌, ◌<◌, eqb, ltb, length}
use Rattle.std.proofs.Math.Path.{sym, ap}
use Rattle.std.proofs.Common.{◌∙◌, zero-le, arith, eqb-true, ltb-true, ltb-false}
use Rattle.std.specs.Int.Count.{ones, ones_in}
use Rattle.std.proofs.lemmas.Nat.{ones_cat}
use Rattle.std.proofs.lemmas.Bool.{eqb-false}
use Rattle.refusal.specs.Clash.{clash}
use Rattle.given.specs.Lists.{keep_if}
use Rattle.places.specs.Counts.{transistors_most}
use Rattle.places.specs.Sets.{member, set_of, list_of}
use Rattle.places.specs.inner.Parts.{NextIn}
use Rattle.places.specs.laws.Members.{set_below}

-- nobody between two places
list_quiet : {A : Type 0} (p : ℕ → Bool) (f : ℕ → A) (a k : ℕ) → a ≤ k →
    ((j : ℕ) → a ≤ j → j < k → p j ≡ false) → list_of p f k ≡ list_of p f a
unfolding list_of
list_quiet p f a zero h q = let e : 0 ≡ a = omega arith in ap (list_of p f) e
list_quiet {A} p f a (suc k) h q = go (eqb a (suc k)) refl (λ l. list_quiet p f a k l (λ j m n. q j m (omega arith)))
  where
    go : (t : Bool) → eqb a (suc k) ≡ t → (a ≤ k → list_of p f k ≡ list_of p f a) →
        keep_if (p k) (f k) (list_of p f k) ≡ list_of p f a
    go true e before = sym (ap (list_of p f) (eqb-true a (suc k) e))
    go false e before =
        let o = eqb-false a (suc k) e in
        let l : a ≤ k = omega arith in rw (q k l (omega arith)) (before l)

-- i is a place of the set, or the number of places where all are passed
pub record At (set i : ℕ) : Type 0 where
  pub most : i ≤ transistors_most
  pub is : i < transistors_most → member set i ≡ true

-- the next place is a later one
pub next_after : {set i j : ℕ} → i < transistors_most → NextIn set (i + 1) j → i < j
next_after {set} {i} {j} h n = go (ltb j transistors_most) refl
  where
    go : (t : Bool) → ltb j transistors_most ≡ t → i < j
    go true e = let l = n.later (ltb-true j transistors_most e) in omega arith
    go false e = let l = ltb-false j transistors_most e in omega arith

module _ {A : Type 0} {set : ℕ} (f : ℕ → A) where
  pub walk_starts : {i : ℕ} → NextIn set 0 i → At set i × ([] ≡ list_of (member set) f i)
  unfolding list_of
  walk_starts {i} n = (
    record { most = n.most; is = n.is },
    sym (list_quiet (member set) f 0 i (omega arith) (λ j l m. n.between j l m)),
  )

  pub walk_goes : {i j : ℕ} → At set i → i < transistors_most → NextIn set (i + 1) j →
      At set j × (f i ∷ list_of (member set) f i ≡ list_of (member set) f j)
  unfolding list_of
  walk_goes {i} {j} a h n = (
    record { most = n.most; is = n.is },
    sym
        (list_quiet (member set) f (suc i) j (next_after h n) (λ k l m. n.between k (omega arith) m)
        ∙ ap (λ (t : Bool). keep_if t (f i) (list_of (member set) f i)) (a.is h)),
  )

-- how many there are, by the digits that are set
pub ones_list : {A : Type 0} (p : ℕ → Bool) (f : ℕ → A) (k : ℕ) → ones (set_of p k) ≡ length (list_of p f k)
unfolding set_of list_of ones ones_in
ones_list p f zero = refl
ones_list {A} p f (suc k) = go (p k) (ones_list p f k)
  where
    go : (t : Bool) → ones (set_of p k) ≡ length (list_of p f k) →
        ones (set_of p k + cond t (2 ^ k) 0) ≡ length (keep_if t (f k) (list_of p f k))
    go true e =
        let w : set_of p k + 2 ^ k ≡ 1 * 2 ^ k + set_of p k = omega arith in
        ap ones w ∙ ones_cat k 1 (set_of p k) (set_below p k) ∙ let one : ones 1 ≡ 1 = refl in omega (arith, one, e)
    go false e = let w : set_of p k + 0 ≡ set_of p k = omega arith in ap ones w ∙ e

-- tests that agree below k, and what is told of those that pass
pub list_same : {A : Type 0} (p q : ℕ → Bool) (f g : ℕ → A) (k : ℕ) → ((i : ℕ) → i < k → p i ≡ q i) →
    ((i : ℕ) → i < k → q i ≡ true → f i ≡ g i) → list_of p f k ≡ list_of q g k
unfolding list_of
list_same p q f g zero h e = refl
list_same {A} p q f g (suc k) h e =
    let rest = list_same p q f g k (λ i l. h i (omega arith)) (λ i l t. e i (omega arith) t) in
    ap (λ (t : Bool). keep_if t (f k) (list_of p f k)) (h k (omega arith)) ∙ go (q k) refl rest
  where
    go : (t : Bool) → q k ≡ t → list_of p f k ≡ list_of q g k →
        keep_if t (f k) (list_of p f k) ≡ keep_if t (g k) (list_of q g k)
    go true u rest = let here = e k (omega arith) u in λ j. here j ∷ rest j
    go false u rest = rest

-- one that is still to come finds room where all do
pub list_grows : {A : Type 0} (p : ℕ → Bool) (f : ℕ → A) (i k : ℕ) → p i ≡ true → i < k →
    length (list_of p f i) < length (list_of p f k)
unfolding list_of
list_grows p f i zero h l = absurd (omega arith)
list_grows {A} p f i (suc k) h l = go (eqb i k) refl (p k) refl (λ m. list_grows p f i k h m)
  where
    go : (t : Bool) → eqb i k ≡ t → (u : Bool) → p k ≡ u →
        (i < k → length (list_of p f i) < length (list_of p f k)) →
        length (list_of p f i) < length (keep_if u (f k) (list_of p f k))
    go true e true q before = let o = eqb-true i k e in rw o (omega arith)
    go true e false q before = let w : true ≡ false = sym h ∙ ap p (eqb-true i k e) ∙ q in clash cc
    go false e true q before = let o = eqb-false i k e in let m = before (omega arith) in omega arith
    go false e false q before = let o = eqb-false i k e in before (omega arith)

-- whatever is told of them
pub list_long : {A B : Type 0} (p : ℕ → Bool) (f : ℕ → A) (g : ℕ → B) (k : ℕ) →
    length (list_of p f k) ≡ length (list_of p g k)
unfolding list_of
list_long p f g zero = refl
list_long p f g (suc k) = go (p k) (list_long p f g k)
  where
    go : (t : Bool) → length (list_of p f k) ≡ length (list_of p g k) →
        length (keep_if t (f k) (list_of p f k)) ≡ length (keep_if t (g k) (list_of p g k))
    go true e = ap suc e
    go false e = e

-- no more than there are places
pub list_few : {A : Type 0} (p : ℕ → Bool) (f : ℕ → A) (k : ℕ) → length (list_of p f k) ≤ k
unfolding list_of
list_few p f zero = zero-le
list_few {A} p f (suc k) = go (p k) (list_few p f k)
  where
    go : (t : Bool) → length (list_of p f k) ≤ k → length (keep_if t (f k) (list_of p f k)) ≤ suc k
    go true h = omega arith
    go false h = omega arith
