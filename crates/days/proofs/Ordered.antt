-- Numbers put in rising order, how many of them differ, and the largest: none of it depends on the order they came in.
use mathlib.Core.Path.{◌≡◌, refl, sym, ap, ◌∙◌}
use mathlib.Core.Bool.{Bool, true, false, cond, ◌||◌}
use mathlib.Core.List.{List, [], ◌∷◌, map}
use mathlib.Core.Logic.{inl, inr}
use Prim.Native.Nat.{ℕ, suc, ◌≤◌, ◌<◌}
use native.Mathlib.Omega.{arith}
use lib.Dec.{eqb, ltb}
use borrow.Author.Tests.{eqb-true, eqb-false, eq-eqb, ne_eqb, ltb-true, ltb-false}
use Rattle.given.specs.Lists.{any_of, keep_if, only, smaller, larger, largest, insert, in_order, different}
use Rattle.days.specs.Perm.{Perm, empty, keep, swap, then}
use Rattle.days.specs.Rising.{Rising, end, next}
use Rattle.days.specs.Told.{Among}
use Rattle.days.proofs.Perms.{perm_self, perm_any, count, more, larger_turn}
use Rattle.days.proofs.Amongst.{perm_in, counted}

-- ---- some of a list, and each seen through a function

pub perm_keep_if : {A : Type 0} (t : Bool) (a : A) {xs ys : List A} → Perm xs ys → Perm (keep_if t a xs) (keep_if t a ys)
perm_keep_if true a p = keep p
perm_keep_if false a p = p

pub perm_keep_swap : {A : Type 0} (t u : Bool) (a b : A) (xs : List A) →
    Perm (keep_if t a (keep_if u b xs)) (keep_if u b (keep_if t a xs))
perm_keep_swap true true a b xs = swap
perm_keep_swap true false a b xs = perm_self _
perm_keep_swap false true a b xs = perm_self _
perm_keep_swap false false a b xs = perm_self _

pub perm_only : {A : Type 0} (p : A → Bool) {xs ys : List A} → Perm xs ys → Perm (only p xs) (only p ys)
unfolding only
perm_only p empty = empty
perm_only p (keep {a = a} q) = perm_keep_if (p a) a (perm_only p q)
perm_only p (swap {a = a} {b = b} {xs = xs}) = perm_keep_swap (p a) (p b) a b (only p xs)
perm_only p (then q r) = then (perm_only p q) (perm_only p r)

pub perm_map : {A B : Type 0} (f : A → B) {xs ys : List A} → Perm xs ys → Perm (map f xs) (map f ys)
perm_map f empty = empty
perm_map f (keep p) = keep (perm_map f p)
perm_map f swap = swap
perm_map f (then p q) = then (perm_map f p) (perm_map f q)

-- ---- in order

-- two numbers and which is which
data Split (m n : ℕ) : ℕ → ℕ → Type 0 where
  as_they_are : m < n → Split m n m n
  turned : n ≤ m → Split m n n m

split : (m n : ℕ) → Split m n (smaller m n) (larger m n)
split m n = go (ltb m n) refl
  where
    go : (t : Bool) → ltb m n ≡ t → Split m n (cond t m n) (cond t n m)
    go true e = as_they_are (ltb-true m n e)
    go false e = turned (ltb-false m n e)

pub perm_insert : (x : ℕ) (l : List ℕ) → Perm (insert x l) (x ∷ l)
unfolding insert
perm_insert x [] = perm_self _
perm_insert x (n ∷ ns) = go (split x n) (perm_insert (larger x n) ns)
  where
    go : {a b : ℕ} → Split x n a b → Perm (insert b ns) (b ∷ ns) → Perm (a ∷ insert b ns) (x ∷ n ∷ ns)
    go (as_they_are h) p = keep p
    go (turned h) p = then (keep p) swap

pub perm_in_order : (l : List ℕ) → Perm (in_order l) l
unfolding in_order
perm_in_order [] = empty
perm_in_order (n ∷ ns) = then (perm_insert n (in_order ns)) (keep (perm_in_order ns))

-- two that are put in, in either order
insert_turn : (x y : ℕ) (l : List ℕ) → insert x (insert y l) ≡ insert y (insert x l)
unfolding insert
insert_turn x y [] = go (split x y) (split y x)
  where
    go : {a b c d : ℕ} → Split x y a b → Split y x c d → a ∷ b ∷ [] ≡ c ∷ d ∷ []
    go (as_they_are p) (as_they_are q) = absurd (omega arith)
    go (as_they_are p) (turned q) = refl
    go (turned p) (as_they_are q) = refl
    go (turned p) (turned q) = let e : y ≡ x = omega arith in let f : x ≡ y = omega arith in λ i. e i ∷ f i ∷ []
insert_turn x y (n ∷ ns) =
    go (split y n) (split x n) (split x (smaller y n)) (split y (smaller x n)) (λ a b. insert_turn a b ns)
  where
    same : (a b c d e f : ℕ) → a ≡ b → c ≡ d → e ≡ f → a ∷ insert c (insert e ns) ≡ b ∷ insert d (insert f ns)
    same a b c d e f p q r = λ i. p i ∷ insert (q i) (insert (r i) ns)

    go : {a b c d e f g h : ℕ} → Split y n a b → Split x n c d → Split x a e f → Split y c g h →
        ((i j : ℕ) → insert i (insert j ns) ≡ insert j (insert i ns)) →
        e ∷ insert f (insert b ns) ≡ g ∷ insert h (insert d ns)
    go (as_they_are p) (as_they_are q) (as_they_are r) (as_they_are s) turn = absurd (omega arith)
    go (as_they_are p) (as_they_are q) (as_they_are r) (turned s) turn = refl
    go (as_they_are p) (as_they_are q) (turned r) (as_they_are s) turn = refl
    go (as_they_are p) (as_they_are q) (turned r) (turned s) turn =
        same y x x y n n (omega arith) (omega arith) (omega arith)
    go (as_they_are p) (turned q) (as_they_are r) (as_they_are s) turn = absurd (omega arith)
    go (as_they_are p) (turned q) (as_they_are r) (turned s) turn = absurd (omega arith)
    go (as_they_are p) (turned q) (turned r) (as_they_are s) turn = ap (λ (l : List ℕ). y ∷ l) (turn x n)
    go (as_they_are p) (turned q) (turned r) (turned s) turn = absurd (omega arith)
    go (turned p) (as_they_are q) (as_they_are r) (as_they_are s) turn = absurd (omega arith)
    go (turned p) (as_they_are q) (as_they_are r) (turned s) turn = ap (λ (l : List ℕ). x ∷ l) (turn n y)
    go (turned p) (as_they_are q) (turned r) (as_they_are s) turn = absurd (omega arith)
    go (turned p) (as_they_are q) (turned r) (turned s) turn = absurd (omega arith)
    go (turned p) (turned q) (as_they_are r) (as_they_are s) turn = absurd (omega arith)
    go (turned p) (turned q) (as_they_are r) (turned s) turn = absurd (omega arith)
    go (turned p) (turned q) (turned r) (as_they_are s) turn = absurd (omega arith)
    go (turned p) (turned q) (turned r) (turned s) turn = ap (λ (l : List ℕ). n ∷ l) (turn x y)

pub perm_order : {xs ys : List ℕ} → Perm xs ys → in_order xs ≡ in_order ys
unfolding in_order
perm_order empty = refl
perm_order (keep {a = a} p) = ap (insert a) (perm_order p)
perm_order (swap {a = a} {b = b} {xs = xs}) = insert_turn a b (in_order xs)
perm_order (then p q) = perm_order p ∙ perm_order q

-- numbers that differ from each other are put in strictly rising order
above : {low : ℕ} {l : List ℕ} → Rising low l → (n : ℕ) → Among n l → low < n
above end n m = elim m [ ]
above (next h r) n (inl e) = rw e h
above (next h r) n (inr m) = let k = above r n m in omega arith

from_lower : {low n : ℕ} {l : List ℕ} → low < n → Rising n l → Rising low l
from_lower h end = end
from_lower {low} {n} h (next {n = m} k r) = let q : low < m = omega arith in next q r

insert_rises : (x : ℕ) (l : List ℕ) {low : ℕ} → low < x → Rising low l → (Among x l → ⊥) → Rising low (insert x l)
unfolding insert
insert_rises x [] h r none = next h end
insert_rises x (n ∷ ns) {low} h (next k r) none =
    go (split x n) (λ m q s t. insert_rises (larger x n) ns {low = m} q s t)
  where
    go : {a b : ℕ} → Split x n a b →
        ((m : ℕ) → m < b → Rising m ns → (Among b ns → ⊥) → Rising m (insert b ns)) → Rising low (a ∷ insert b ns)
    go (as_they_are q) rest = next h (rest x q (from_lower q r) (λ m. let z = above r n m in absurd (omega arith)))
    go (turned q) rest = next k (rest n apart r (λ m. none (inr m)))
      where
        apart : n < x
        apart = away (eqb x n) refl
          where
            away : (t : Bool) → eqb x n ≡ t → n < x
            away true e = absurd (none (inl (eqb-true x n e)))
            away false e = let o = eqb-false x n e in omega arith

pub order_rises : (l : List ℕ) → ((n : ℕ) → Among n l → 0 < n) → ((n : ℕ) → count (λ (m : ℕ). eqb m n) l ≤ 1) →
    Rising 0 (in_order l)
unfolding in_order count
order_rises [] given once = end
order_rises (n ∷ ns) given once =
    insert_rises n (in_order ns) (given n (inl refl)) (order_rises ns (λ m a. given m (inr a)) (λ m. fewer m)) fresh
  where
    fewer : (m : ℕ) → count (λ (k : ℕ). eqb k m) ns ≤ 1
    fewer m = go (eqb n m) (once m)
      where
        go : (t : Bool) → more t (count (λ (k : ℕ). eqb k m) ns) ≤ 1 → count (λ (k : ℕ). eqb k m) ns ≤ 1
        go true h = omega arith
        go false h = h

    fresh : Among n (in_order ns) → ⊥
    fresh a =
        let c = counted (λ (m : ℕ). m) n n ns (perm_in n (perm_in_order ns) a) refl in
        let o = once n in
        let t : more (eqb n n) (count (λ (m : ℕ). eqb m n) ns) ≤ 1 = o in
        let e = eq-eqb n n refl in
        let z : more true (count (λ (m : ℕ). eqb m n) ns) ≤ 1 = rw e at t in absurd (omega arith)

-- ---- how many differ, and the largest

pub perm_different : {xs ys : List ℕ} → Perm xs ys → different xs ≡ different ys
unfolding different any_of
perm_different empty = refl
perm_different (keep {a = a} {xs = xs} {ys = ys} p) =
    let n = perm_different p in
    let m = perm_any (eqb a) p in λ j. cond (m j) (n j) (suc (n j))
perm_different (swap {a = a} {b = b} {xs = xs}) =
    go (eqb a b) refl (any_of (eqb a) xs) refl (any_of (eqb b) xs) refl
  where
    other : (t : Bool) → eqb a b ≡ t → eqb b a ≡ t
    other true e = eq-eqb b a (sym (eqb-true a b e))
    other false e = ne_eqb b a (λ z. eqb-false a b e (sym z))

    go : (t : Bool) → eqb a b ≡ t → (u : Bool) → any_of (eqb a) xs ≡ u → (v : Bool) → any_of (eqb b) xs ≡ v →
        cond (eqb a b || any_of (eqb a) xs) (cond (any_of (eqb b) xs) (different xs) (suc (different xs)))
        (suc (cond (any_of (eqb b) xs) (different xs) (suc (different xs))))
        ≡ cond (eqb b a || any_of (eqb b) xs) (cond (any_of (eqb a) xs) (different xs) (suc (different xs)))
        (suc (cond (any_of (eqb a) xs) (different xs) (suc (different xs))))
    go true e u p v q =
        let w = eqb-true a b e in
        let same : any_of (eqb a) xs ≡ any_of (eqb b) xs = ap (λ (n : ℕ). any_of (eqb n) xs) w in
        rw (e, other true e, same)
    go false e true p true q = rw (e, other false e, p, q)
    go false e true p false q = rw (e, other false e, p, q)
    go false e false p true q = rw (e, other false e, p, q)
    go false e false p false q = rw (e, other false e, p, q)
perm_different (then p q) = perm_different p ∙ perm_different q

pub perm_largest : {xs ys : List ℕ} → Perm xs ys → largest xs ≡ largest ys
unfolding largest
perm_largest empty = refl
perm_largest (keep {a = a} p) = ap (larger a) (perm_largest p)
perm_largest (swap {a = a} {b = b} {xs = xs}) = larger_turn a b (largest xs)
perm_largest (then p q) = perm_largest p ∙ perm_largest q
