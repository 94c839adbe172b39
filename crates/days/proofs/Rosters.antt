-- Who names a node, on the board and on the desk: what is told of the places of its set is what is told of those
-- standing.
use mathlib.Core.Path.{◌≡◌, refl, sym, ap, ◌∙◌, subst}
use mathlib.Core.Bool.{Bool, true, false, cond, not}
use mathlib.Core.List.{List, [], ◌∷◌, map}
use Prim.Native.Nat.{ℕ, zero, suc, ◌<◌}
use lib.Dec.{eqb}
use lib.ListN.{length, get_or}
use borrow.Author.Tests.{eqb-false}
use Rattle.refusal.specs.Clash.{clash}
use Rattle.totals.specs.Flow.{ticks_at}
use Rattle.given.specs.Lists.{keep_if, only, any_of}
use Rattle.places.specs.Gathered.{Transistor, no_transistor}
use Rattle.places.specs.Finding.{stands_at}
use Rattle.places.specs.Sets.{member, list_of}
use Rattle.places.specs.laws.Members.{member_set}
use Rattle.places.specs.laws.Walks.{list_same}
use Rattle.model.specs.Board.{Board}
use Rattle.model.specs.Counts.{nodes_most, transistors_most}
use Rattle.model.specs.Largest.{size_at}
use Rattle.model.specs.Desk as desk
use Rattle.model.specs.Desk.{Desk, Standing, standing_on}
use Rattle.model.specs.Model.{cards_of, transistors_of, transistor_at, told_on, issues_on}
use Rattle.model.proofs.Invariant.{Invariant, held_is}
use Rattle.days.specs.Perm.{Perm, empty, then}
use Rattle.days.specs.Stands.{occupied, standing_of, Stands}
use Rattle.days.proofs.Perms.{perm_self}
use Rattle.days.proofs.Ordered.{perm_keep_if, perm_keep_swap, perm_only, perm_map, perm_order}

-- ---- places of a list that pass a test, and the elements that do

first_out : {A : Type 0} (p : ℕ → Bool) (f : ℕ → A) (k : ℕ) →
    Perm (list_of p f (suc k)) (keep_if (p 0) (f 0) (list_of (λ (i : ℕ). p (suc i)) (λ (i : ℕ). f (suc i)) k))
unfolding list_of
first_out p f zero = perm_self _
first_out p f (suc k) =
    then (perm_keep_if (p (suc k)) (f (suc k)) (first_out p f k)) (perm_keep_swap (p (suc k)) (p 0) (f (suc k)) (f 0) _)

map_keep : {A B : Type 0} (f : A → B) (t : Bool) (a : A) (l : List A) → keep_if t (f a) (map f l) ≡ map f (keep_if t a l)
map_keep f true a l = refl
map_keep f false a l = refl

list_perm : {A B : Type 0} (p : A → Bool) (f : A → B) (d : A) (l : List A) →
    Perm (list_of (λ (i : ℕ). p (get_or l i d)) (λ (i : ℕ). f (get_or l i d)) (length l)) (map f (only p l))
unfolding only list_of
list_perm p f d [] = empty
list_perm {B = B} p f d (a ∷ rest) =
    subst
    (λ (x : List B). Perm (list_of (λ (i : ℕ). p (get_or (a ∷ rest) i d)) (λ (i : ℕ). f (get_or (a ∷ rest) i d))
    (suc (length rest))) x)
    (map_keep f (p a) a (only p rest))
    (then (first_out (λ (i : ℕ). p (get_or (a ∷ rest) i d)) (λ (i : ℕ). f (get_or (a ∷ rest) i d)) (length rest))
    (perm_keep_if (p a) (f a) (list_perm p f d rest)))

only_occupied : {A B C : Type 0} (key : A → ℕ) (f : A → B) (p : B → Bool) (h : B → C) (l : List A) →
    map (λ (a : A). h (f a)) (only (λ (a : A). cond (eqb (key a) 0) false (p (f a))) l)
    ≡ map h (only p (occupied key f l))
unfolding only occupied
only_occupied key f p h [] = refl
only_occupied {A} {B} {C} key f p h (a ∷ rest) = go (eqb (key a) 0) (p (f a)) refl (only_occupied key f p h rest)
  where
    go : (t u : Bool) → p (f a) ≡ u →
        map (λ (x : A). h (f x)) (only (λ (x : A). cond (eqb (key x) 0) false (p (f x))) rest)
        ≡ map h (only p (occupied key f rest)) →
        map (λ (x : A). h (f x))
        (keep_if (cond t false u) a (only (λ (x : A). cond (eqb (key x) 0) false (p (f x))) rest))
        ≡ map h (only p (keep_if (not t) (f a) (occupied key f rest)))
    go true u q e = e
    go false true q e = rw q (ap (λ (l : List C). h (f a) ∷ l) e)
    go false false q e = rw q e

-- ---- on a board that stands for a desk

names_stands : (n : ℕ) (t : Transistor) → stands_at n t ≡ true → t.issue ≡ 0 → ⊥
names_stands n t e = go (eqb t.issue 0) refl e
  where
    go : (u : Bool) → eqb t.issue 0 ≡ u → cond u false (any_of (λ (m : ℕ). eqb m n) t.nodes) ≡ true →
        t.issue ≡ 0 → ⊥
    go true q w = clash cc
    go false q w = eqb-false t.issue 0 q

module _ (b : Board) (d : Desk) (g : Invariant b) (s : Stands b d) (n : ℕ) (on : n < nodes_most) where
  -- what f tells of who stands at the places of the set, where h tells it of who stands
  told_perm : {A : Type 0} (f : Transistor → A) (h : Standing → A) →
      ((i : ℕ) → stands_at n (transistor_at b i) ≡ true → f (transistor_at b i) ≡ h (standing_of (cards_of b)
      (transistor_at b i))) → Perm (told_on b f n) (map h (standing_on d n))
  told_perm {A} f h e =
      subst (λ (l : List A). Perm l (map h (standing_on d n))) (sym scanned)
      (then
      (subst
      (λ (k : ℕ). Perm (list_of stands (λ (i : ℕ). h (standing_of (cards_of b) (transistor_at b i))) k)
      (map (λ (t : Transistor). h (standing_of (cards_of b) t)) (only (stands_at n) (transistors_of b))))
      g.footing.footed.transistors_long
      (list_perm (stands_at n) (λ (t : Transistor). h (standing_of (cards_of b) t)) no_transistor (transistors_of b)))
      (subst
      (λ (l : List A). Perm l (map h (standing_on d n)))
      (sym (only_occupied (λ (t : Transistor). t.issue) (standing_of (cards_of b))
      (λ (t : Standing). any_of (λ (m : ℕ). eqb m n) t.nodes) h (transistors_of b)))
      (perm_map h (perm_only (λ (t : Standing). any_of (λ (m : ℕ). eqb m n) t.nodes) s.standing))))
    where
      stands : ℕ → Bool
      stands i = stands_at n (transistor_at b i)

      scanned : told_on b f n ≡ list_of stands (λ (i : ℕ). h (standing_of (cards_of b) (transistor_at b i))) transistors_most
      scanned =
          list_same (member (get_or b.naming n 0)) stands (λ (i : ℕ). f (transistor_at b i)) _ transistors_most
          (λ i q. ap (λ (x : ℕ). member x i) (g.footing.named.at n on) ∙ member_set stands transistors_most i q)
          (λ i q t. e i t)

  pub issues_told : Perm (told_on b (λ (t : Transistor). t.issue) n) (map (λ (t : Standing). t.issue) (standing_on d n))
  issues_told = told_perm (λ (t : Transistor). t.issue) (λ (t : Standing). t.issue) (λ i q. refl)

  pub cards_told : Perm (told_on b (λ (t : Transistor). t.card) n) (map (λ (t : Standing). t.card) (standing_on d n))
  cards_told = told_perm (λ (t : Transistor). t.card) (λ (t : Standing). t.card) (λ i q. refl)

  -- what is held is what is had
  pub sizes_told : Perm (told_on b (λ (t : Transistor). size_at n t.nodes t.currents) n)
      (map (λ (t : Standing). size_at n t.nodes (ticks_at t.worked t.nodes d.volts)) (standing_on d n))
  sizes_told =
      told_perm (λ (t : Transistor). size_at n t.nodes t.currents)
      (λ (t : Standing). size_at n t.nodes (ticks_at t.worked t.nodes d.volts))
      (λ i q. rw (← s.volts)
      (ap (size_at n (transistor_at b i).nodes) (held_is g i (names_stands n (transistor_at b i) q))))

  pub issues_same : issues_on b n ≡ desk.issues_on d n
  issues_same = perm_order issues_told
