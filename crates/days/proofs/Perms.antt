-- What does not depend on a list's order: sums, searches that at most one element answers, lengths, and what is left
-- without a key.
use mathlib.Core.Path.{◌≡◌, refl, sym, ap, ◌∙◌, subst}
use mathlib.Core.Bool.{Bool, true, false, cond, not, ◌||◌}
use mathlib.Core.List.{List, [], ◌∷◌}
use Prim.Native.Nat.{ℕ, suc, ◌≤◌, ◌<◌}
use native.Mathlib.Omega.{arith}
use lib.Dec.{eqb, ltb}
use lib.ListN.{length}
use lib.IntN.{ℤ, ◌+ℤ◌, +ℤ_assoc, +ℤ_comm}
use borrow.Author.Tests.{ltb-true, ltb-false}
use Rattle.name.specs.Name.{same}
use Rattle.totals.specs.Flow.{sum_over}
use Rattle.given.specs.Lists.{any_of, keep_if, larger}
use Rattle.model.specs.Desk.{first_with, if_true, without, Held, highest}
use Rattle.days.specs.Perm.{Perm, empty, keep, swap, then}

pub perm_self : {A : Type 0} (xs : List A) → Perm xs xs
perm_self [] = empty
perm_self (a ∷ xs) = keep (perm_self xs)

-- a newcomer that is known by another name
pub perm_join : {A : Type 0} {a c : A} {xs ys zs : List A} → Perm xs (a ∷ ys) → a ≡ c → Perm ys zs → Perm xs (c ∷ zs)
perm_join {A = A} {a = a} {ys = ys} {zs = zs} p e q = then p (subst (λ (x : A). Perm (a ∷ ys) (x ∷ zs)) e (keep q))

pub perm_length : {A : Type 0} {xs ys : List A} → Perm xs ys → length xs ≡ length ys
perm_length empty = refl
perm_length (keep p) = ap suc (perm_length p)
perm_length swap = refl
perm_length (then p q) = perm_length p ∙ perm_length q

turn : (a b c : ℤ) → a +ℤ (b +ℤ c) ≡ b +ℤ (a +ℤ c)
turn a b c = sym (+ℤ_assoc a b c) ∙ ap (λ (z : ℤ). z +ℤ c) (+ℤ_comm a b) ∙ +ℤ_assoc b a c

pub perm_sum : {A : Type 0} (f : A → ℤ) {xs ys : List A} → Perm xs ys → sum_over f xs ≡ sum_over f ys
unfolding sum_over
perm_sum f empty = refl
perm_sum f (keep {a = a} p) = ap (λ (z : ℤ). f a +ℤ z) (perm_sum f p)
perm_sum f (swap {a = a} {b = b} {xs = xs}) = turn (f a) (f b) (sum_over f xs)
perm_sum f (then p q) = perm_sum f p ∙ perm_sum f q

or_turn : (a b c : Bool) → a || (b || c) ≡ b || (a || c)
or_turn true true c = refl
or_turn true false c = refl
or_turn false true c = refl
or_turn false false c = refl

pub perm_any : {A : Type 0} (p : A → Bool) {xs ys : List A} → Perm xs ys → any_of p xs ≡ any_of p ys
unfolding any_of
perm_any p empty = refl
perm_any p (keep {a = a} q) = ap (λ (z : Bool). p a || z) (perm_any p q)
perm_any p (swap {a = a} {b = b} {xs = xs}) = or_turn (p a) (p b) (any_of p xs)
perm_any p (then q r) = perm_any p q ∙ perm_any p r

-- how many elements pass a test
abbrev pub more : Bool → ℕ → ℕ
more true n = suc n
more false n = n

unfoldable pub count : {A : Type 0} → (A → Bool) → List A → ℕ
count p [] = 0
count p (a ∷ rest) = more (p a) (count p rest)

more_turn : (t u : Bool) (n : ℕ) → more t (more u n) ≡ more u (more t n)
more_turn true true n = refl
more_turn true false n = refl
more_turn false true n = refl
more_turn false false n = refl

pub perm_count : {A : Type 0} (p : A → Bool) {xs ys : List A} → Perm xs ys → count p xs ≡ count p ys
unfolding count
perm_count p empty = refl
perm_count p (keep {a = a} q) = ap (more (p a)) (perm_count p q)
perm_count p (swap {a = a} {b = b} {xs = xs}) = more_turn (p a) (p b) (count p xs)
perm_count p (then q r) = perm_count p q ∙ perm_count p r

-- where at most one element passes, the first that does is the same in any order
pub perm_first : {A : Type 0} (p : A → Bool) {xs ys : List A} → count p xs ≤ 1 → Perm xs ys →
    first_with p xs ≡ first_with p ys
unfolding first_with count
perm_first p h empty = refl
perm_first p h (keep {a = a} {xs = xs} {ys = ys} q) = go (p a) h (λ k. perm_first p k q)
  where
    go : (t : Bool) → more t (count p xs) ≤ 1 → (count p xs ≤ 1 → first_with p xs ≡ first_with p ys) →
        if_true t a (first_with p xs) ≡ if_true t a (first_with p ys)
    go true k next = refl
    go false k next = next (omega arith)
perm_first p h (swap {a = a} {b = b} {xs = xs}) = go (p a) (p b) h
  where
    go : (t u : Bool) → more t (more u (count p xs)) ≤ 1 →
        if_true t a (if_true u b (first_with p xs)) ≡ if_true u b (if_true t a (first_with p xs))
    go true true k = absurd (omega arith)
    go true false k = refl
    go false true k = refl
    go false false k = refl
perm_first p h (then q r) = perm_first p h q ∙ perm_first p (subst (λ (n : ℕ). n ≤ 1) (perm_count p q) h) r

-- what is left without a key, in any order
pub perm_without : {A : Type 0} (key : A → ℕ) (n : ℕ) {xs ys : List A} → Perm xs ys →
    Perm (without key n xs) (without key n ys)
unfolding without
perm_without key n empty = empty
perm_without key n (keep {a = a} {xs = xs} {ys = ys} p) = go (not (eqb (key a) n)) (perm_without key n p)
  where
    go : (t : Bool) → Perm (without key n xs) (without key n ys) →
        Perm (keep_if t a (without key n xs)) (keep_if t a (without key n ys))
    go true q = keep q
    go false q = q
perm_without key n (swap {a = a} {b = b} {xs = xs}) = go (not (eqb (key a) n)) (not (eqb (key b) n))
  where
    go : (t u : Bool) → Perm (keep_if t a (keep_if u b (without key n xs))) (keep_if u b (keep_if t a (without key n xs)))
    go true true = swap
    go true false = perm_self _
    go false true = perm_self _
    go false false = perm_self _
perm_without key n (then p q) = then (perm_without key n p) (perm_without key n q)

-- the larger of two, by its order
data Larger (m n : ℕ) : ℕ → Type 0 where
  second : m < n → Larger m n n
  first : n ≤ m → Larger m n m

larger_is : (m n : ℕ) → Larger m n (larger m n)
larger_is m n = go (ltb m n) refl
  where
    go : (t : Bool) → ltb m n ≡ t → Larger m n (cond t n m)
    go true e = second (ltb-true m n e)
    go false e = first (ltb-false m n e)

pub larger_turn : (a b c : ℕ) → larger a (larger b c) ≡ larger b (larger a c)
larger_turn a b c = go (larger_is b c) (larger_is a c) (larger_is a (larger b c)) (larger_is b (larger a c))
  where
    go : {x y z w : ℕ} → Larger b c x → Larger a c y → Larger a x z → Larger b y w → z ≡ w
    go (second p) (second q) (second r) (second s) = refl
    go (second p) (second q) (second r) (first s) = omega arith
    go (second p) (second q) (first r) (second s) = omega arith
    go (second p) (second q) (first r) (first s) = omega arith
    go (second p) (first q) (second r) (second s) = omega arith
    go (second p) (first q) (second r) (first s) = omega arith
    go (second p) (first q) (first r) (second s) = refl
    go (second p) (first q) (first r) (first s) = omega arith
    go (first p) (second q) (second r) (second s) = omega arith
    go (first p) (second q) (second r) (first s) = omega arith
    go (first p) (second q) (first r) (second s) = omega arith
    go (first p) (second q) (first r) (first s) = omega arith
    go (first p) (first q) (second r) (second s) = omega arith
    go (first p) (first q) (second r) (first s) = omega arith
    go (first p) (first q) (first r) (second s) = omega arith
    go (first p) (first q) (first r) (first s) = omega arith

pub perm_highest : (name : List ℕ) {xs ys : List Held} → Perm xs ys → highest name xs ≡ highest name ys
unfolding highest
perm_highest name empty = refl
perm_highest name (keep {a = a} p) = ap (larger (cond (same a.name name) a.issue 0)) (perm_highest name p)
perm_highest name (swap {a = a} {b = b} {xs = xs}) =
    larger_turn (cond (same a.name name) a.issue 0) (cond (same b.name name) b.issue 0) (highest name xs)
perm_highest name (then p q) = perm_highest name p ∙ perm_highest name q
