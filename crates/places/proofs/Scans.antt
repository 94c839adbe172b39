-- Going through the places of a list one after the other: what is known once i of them are passed. For elements of
-- any kind.
use mathlib.Core.Path.{◌≡◌, refl, sym, ap, ◌∙◌}
use mathlib.Core.Bool.{Bool, true, false, ◌||◌}
use mathlib.Core.List.{List, [], ◌∷◌}
use Prim.Native.Nat.{ℕ, zero, suc, ◌+◌, ◌-◌, ◌≤◌, ◌<◌}
use native.Mathlib.Nat.{zero-add}
use native.Mathlib.Numerals.{add-one}
use native.Mathlib.Omega.{arith}
use lib.ListN.{length, get_or, drop, drop_of_length-le}
use lib.Seq.{drop-cons}
use borrow.Author.Tests.{lt-ltb, le-ltb}
use Rattle.refusal.specs.Clash.{clash}
use Rattle.deck.specs.laws.Ups.{length_up, get_or_up}
use Rattle.given.specs.Lists.{any_of, larger, largest}
use Rattle.given.specs.Arguments.{none, some}
use Rattle.places.specs.Finding.{first, found_at}
use Rattle.places.specs.inner.Flat.{below, is_at, first_at}

-- none of the first i passes the test, so that the first that does is looked for in the rest
pub record Passed {A : Type 0} (p : A → Bool) (l : List A) (i : ℕ) : Type 0 where
  pub rest_first_lem : first p l ≡ i + first p (drop i l)
  pub rest_any : any_of p l ≡ any_of p (drop i l)

module _ {A : Type 0} {p : A → Bool} {l : List A} where
  pub at_start : Passed p l 0
  at_start = record { rest_first_lem = sym (zero-add (first p l)); rest_any = refl }

  pub goes_on : {i : ℕ} (d : A) → i < length l → p (get_or l i d) ≡ false → Passed p l i → Passed p l (i + 1)
  unfolding first any_of
  goes_on {i} d h e s =
      let f : first p (drop i l) ≡ suc (first p (drop (suc i) l)) = rw (drop-cons l i d h, e) in
      let a : any_of p (drop i l) ≡ any_of p (drop (suc i) l) = rw (drop-cons l i d h, e) in
      let t = s.rest_first_lem in
      record { rest_first_lem = rw add-one (omega arith); rest_any = rw add-one (s.rest_any ∙ a) }

  pub first_here : {i : ℕ} (d : A) → i < length l → p (get_or l i d) ≡ true → Passed p l i → i ≡ first p l
  unfolding first
  first_here {i} d h e s =
      let f : first p (drop i l) ≡ 0 = rw (drop-cons l i d h, e) in
      let t = s.rest_first_lem in omega arith

  pub first_nowhere : {i : ℕ} → length l ≤ i → Passed p l i → i ≡ first p l
  unfolding first
  first_nowhere {i} h s =
      let f : first p (drop i l) ≡ 0 = rw (drop_of_length-le l h) in
      let t = s.rest_first_lem in omega arith

  pub any_here : {i : ℕ} (d : A) → i < length l → p (get_or l i d) ≡ true → Passed p l i → true ≡ any_of p l
  unfolding any_of
  any_here {i} d h e s =
      let a : any_of p (drop i l) ≡ true = rw (drop-cons l i d h, e) in sym (s.rest_any ∙ a)

  pub any_nowhere : {i : ℕ} → length l ≤ i → Passed p l i → false ≡ any_of p l
  unfolding any_of
  any_nowhere {i} h s =
      let a : any_of p (drop i l) ≡ false = rw (drop_of_length-le l h) in sym (s.rest_any ∙ a)

pub none_of : {A : Type 0} (p : A → Bool) (l : List A) (d : A) → any_of p l ≡ false → (i : ℕ) → i < length l →
    p (get_or l i d) ≡ false
unfolding any_of
none_of p [] d e i h = absurd (omega arith)
none_of p (a ∷ rest) d e i h = go (p a) refl e i h (λ k j q. none_of p rest d k j q)
  where
    go : (t : Bool) → p a ≡ t → t || any_of p rest ≡ false → (i : ℕ) → i < suc (length rest) →
        (any_of p rest ≡ false → (j : ℕ) → j < length rest → p (get_or rest j d) ≡ false) →
        p (get_or (a ∷ rest) i d) ≡ false
    go true q e i h next = clash cc
    go false q e zero h next = q
    go false q e (suc i) h next = next e i (omega arith)

-- the numbers below n, each at its own place
pub below_at : (n i : ℕ) → i < n → get_or (below n) i 0 ≡ i
below_at n i h = get_or_up (λ (j : ℕ). j) n 0 i 0 h ∙ zero-add i

-- a place that does not pass
pub passes_on : (most n : ℕ) (numbers : List ℕ) {i : ℕ} → i < most → is_at n numbers i ≡ false →
    Passed (is_at n numbers) (below most) i → Passed (is_at n numbers) (below most) (i + 1)
passes_on most n numbers {i} h e s =
    let l = length_up (λ (j : ℕ). j) most 0 in
    goes_on 0 (omega arith) (ap (is_at n numbers) (below_at most i h) ∙ e) s

-- a place that was looked at, and passes, is the first; where none did, none is
pub found_here : (most n : ℕ) (numbers : List ℕ) {i : ℕ} → i < most → is_at n numbers i ≡ true →
    Passed (is_at n numbers) (below most) i → some i ≡ found_at most (first_at most n numbers)
found_here most n numbers {i} h e s =
    let l = length_up (λ (j : ℕ). j) most 0 in
    let f = first_here {p = is_at n numbers} {l = below most} 0 (omega arith) (ap (is_at n numbers) (below_at most i h) ∙ e) s in
    rw (← f, lt-ltb i most h)

pub found_nowhere : (most n : ℕ) (numbers : List ℕ) {i : ℕ} → most ≤ i →
    Passed (is_at n numbers) (below most) i → none ≡ found_at most (first_at most n numbers)
found_nowhere most n numbers {i} h s =
    let l = length_up (λ (j : ℕ). j) most 0 in
    let f = first_nowhere {p = is_at n numbers} {l = below most} (omega arith) s in
    rw (← f, le-ltb i most h)

-- the largest from place i - 1 on, by that from i on
pub largest_more : (l : List ℕ) (i : ℕ) → 0 < i → i ≤ length l →
    largest (drop (i - 1) l) ≡ larger (get_or l (i - 1) 0) (largest (drop i l))
unfolding largest
largest_more l zero z h = absurd (omega arith)
largest_more l (suc i) z h = let e : suc i - 1 ≡ i = omega arith in rw (e, drop-cons l i 0 (omega arith))

pub largest_none : (l : List ℕ) (i : ℕ) → length l ≤ i → 0 ≡ largest (drop i l)
unfolding largest
largest_none l i h = rw (drop_of_length-le l h)
