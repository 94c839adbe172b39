-- A list filled from its start, place by place: what is known once k places are filled, and what stands there at the
-- end.
use Rattle.std.specs.Prelude.{◌≡◌, refl, Bool, true, false, List, [], ◌∷◌, map, ℕ, suc, ◌+◌, ◌≤◌, ◌<◌, eqb, length, get_or, set}
use Rattle.std.proofs.Common.{ap, ◌∙◌, zero-add, arith, length-set, get_or-set_same, get_or-set_other, eqb-true}
use Rattle.std.proofs.lemmas.Bool.{eqb-false}
use Rattle.rows.specs.inner.FromTerms.{list_up}

-- r has n places, the first k of which hold f 0, f 1, ..
pub record Filled {A : Type 0} (d : A) (n : ℕ) (f : ℕ → A) (k : ℕ) (r : List A) : Type 0 where
  pub long : length r ≡ n
  pub at : (i : ℕ) → i < k → get_or r i d ≡ f i

module _ {A : Type 0} {d : A} {n : ℕ} {f : ℕ → A} where
  pub filled_none : {r : List A} → length r ≡ n → Filled d n f 0 r
  filled_none h = record { long = h; at = λ i k. absurd (omega arith) }

  pub filled_more : {r : List A} {k : ℕ} (v : A) → k < n → v ≡ f k → Filled d n f k r → Filled d n f (k + 1) (set r k v)
  filled_more {r} {k} v h e s = record { long = length-set r k v ∙ s.long; at = λ i q. go i q (eqb i k) refl }
    where
      go : (i : ℕ) → i < k + 1 → (t : Bool) → eqb i k ≡ t → get_or (set r k v) i d ≡ f i
      go i q true p = let same = eqb-true i k p in rw same (get_or-set_same r k v d (rw s.long h) ∙ e)
      go i q false p = let other = eqb-false i k p in get_or-set_other r k i v d other ∙ s.at i (omega arith)

-- a list by its elements
by_places : {A : Type 0} (d : A) (f : ℕ → A) (r : List A) (k : ℕ) → ((i : ℕ) → i < length r → get_or r i d ≡ f (k + i)) →
    r ≡ list_up f (length r) k
unfolding list_up
by_places d f [] k h = refl
by_places d f (x ∷ r) k h =
    let here : x ≡ f k = h 0 (omega arith) ∙ plus_none in
    let rest = by_places d f r (suc k) (λ i q. h (suc i) (omega arith) ∙ moved i) in
    λ j. here j ∷ rest j
  where
    plus_none : f (k + 0) ≡ f k
    plus_none = let e : k + 0 ≡ k = omega arith in rw e

    moved : (i : ℕ) → f (k + suc i) ≡ f (suc k + i)
    moved i = let e : k + suc i ≡ suc k + i = omega arith in rw e

pub filled_all : {A : Type 0} {d : A} {n : ℕ} {f : ℕ → A} {r : List A} {k : ℕ} → n ≤ k → Filled d n f k r
    → r ≡ list_up f n 0
filled_all {d = d} {n = n} {f = f} {r = r} {k = k} h s =
    let e = s.long in
    rw e at (by_places d f r 0 (λ i q. s.at i (omega arith) ∙ (let z : i ≡ 0 + i = omega arith in rw (← z))))

-- where f goes through a list, that is the list with f at each place
pub up_map : {A B : Type 0} (g : A → B) (a : A) (l m : List A) (k : ℕ) → ((i : ℕ) → get_or m (k + i) a ≡ get_or l i a) →
    list_up (λ (i : ℕ). g (get_or m i a)) (length l) k ≡ map g l
unfolding list_up
up_map g a [] m k h = refl
up_map g a (x ∷ l) m k h =
    let here : get_or m k a ≡ x = same ∙ h 0 in
    let rest = up_map g a l m (suc k) (λ i. moved i ∙ h (suc i)) in
    λ j. g (here j) ∷ rest j
  where
    same : get_or m k a ≡ get_or m (k + 0) a
    same = let e : k ≡ k + 0 = omega arith in rw (← e)

    moved : (i : ℕ) → get_or m (suc k + i) a ≡ get_or m (k + suc i) a
    moved i = let e : suc k + i ≡ k + suc i = omega arith in rw e

-- a list filled from its start with what a function makes of another
pub filled_map : {A B : Type 0} (g : A → B) (a : A) (l : List A) {d : B} {n k : ℕ} {r : List B} → length l ≡ n →
    n ≤ k → Filled d n (λ (i : ℕ). g (get_or l i a)) k r → r ≡ map g l
filled_map g a l h m s = filled_all m s ∙ rw (← h) (up_map g a l l 0 (λ i. ap (λ (j : ℕ). get_or l j a) (zero-add i)))
