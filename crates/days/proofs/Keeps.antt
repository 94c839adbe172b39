-- Whoever stands keeps its card and its nodes over any later calls until one asks to lift it, and then nobody stands
-- under its number again.
use mathlib.Core.Path.{◌≡◌, refl, sym, ap, ◌∙◌}
use mathlib.Core.Bool.{Bool, true, false, cond, not, ◌||◌}
use mathlib.Core.Logic.{◌⊎◌, inl, inr}
use mathlib.Core.List.{List, [], ◌∷◌, ◌++◌}
use Prim.Native.Nat.{ℕ, ◌≤◌, ◌<◌}
use native.Mathlib.Nat.{le_refl, le_trans}
use native.Mathlib.Omega.{arith}
use lib.Dec.{eqb}
use lib.IntN.{ℤ}
use borrow.Author.Tests.{eqb-true, eqb-false, ne_eqb}
use Rattle.refusal.specs.Order.{Verdict, no, yes}
use Rattle.refusal.specs.Clash.{clash}
use Rattle.whole.specs.laws.Biased.{below_or_not}
use Rattle.card.specs.declared.WorkedCard.{WorkedCard}
use Rattle.given.specs.Arguments.{Found, none, some, issue_of, known}
use Rattle.given.specs.Pairs.{Shift}
use Rattle.model.specs.Desk as desk
use Rattle.model.specs.Desk.{Held, Standing, Desk, Call, load, place, move, lift, withdraw, look_up, node, currents}
use Rattle.model.specs.Desk.{who, sum_up}
use Rattle.given.specs.Lists.{any_of, keep_if}
use Rattle.model.specs.Desk.{first_with, if_true, stands_as, without, step, after}
use Rattle.model.specs.Model.{board_after}
use Rattle.model.proofs.Invariant.{invariant_after}
use Rattle.days.specs.Stands.{stands_under}
use Rattle.days.specs.Numbers.{asks_to_lift}
use Rattle.days.proofs.Perms.{count, more}
use Rattle.days.proofs.Orderly.{Orderly, orderly_after}
use Rattle.days.proofs.Follows.{transistor_by, stands_after}

-- ---- searches

found_passes : {A : Type 0} (p : A → Bool) (l : List A) (a : A) → first_with p l ≡ some a → p a ≡ true
unfolding first_with
found_passes p [] a e = clash cc
found_passes p (x ∷ rest) a e = go (p x) refl e (λ h. found_passes p rest a h)
  where
    go : (t : Bool) → p x ≡ t → if_true t x (first_with p rest) ≡ some a → (first_with p rest ≡ some a → p a ≡ true) →
        p a ≡ true
    go true q r next = let same : x ≡ a = cc in rw (← same) q
    go false q r next = next r

find_none_left : {A : Type 0} (p : A → Bool) (l : List A) → count p l ≡ 0 → first_with p l ≡ none
unfolding count first_with
find_none_left p [] e = refl
find_none_left p (a ∷ rest) e = go (p a) e (λ h. find_none_left p rest h)
  where
    go : (t : Bool) → more t (count p rest) ≡ 0 → (count p rest ≡ 0 → first_with p rest ≡ none) →
        if_true t a (first_with p rest) ≡ none
    go true h n = absurd (omega arith)
    go false h n = n h

-- the one with number k is still found where another is taken away, and is gone where it is itself taken away
find_without : {A : Type 0} (key : A → ℕ) (k m : ℕ) (l : List A) →
    first_with (λ (a : A). eqb (key a) k) (without key m l) ≡ cond (eqb m k) none
    (first_with (λ (a : A). eqb (key a) k) l)
unfolding without first_with
find_without key k m [] = go (eqb m k)
  where
    go : {B : Type 0} (t : Bool) → ◌≡◌ {A = Found B} none (cond t none none)
    go true = refl
    go false = refl
find_without {A = A} key k m (a ∷ rest) =
    go (eqb (key a) m) (eqb (key a) k) (eqb m k) refl refl refl (find_without key k m rest)
  where
    go : (t u w : Bool) → eqb (key a) m ≡ t → eqb (key a) k ≡ u → eqb m k ≡ w →
        first_with (λ (b : A). eqb (key b) k) (without key m rest) ≡ cond w none
        (first_with (λ (b : A). eqb (key b) k) rest) →
        first_with (λ (b : A). eqb (key b) k) (keep_if (not t) a (without key m rest)) ≡ cond w none
        (if_true u a (first_with (λ (b : A). eqb (key b) k) rest))
    go true true true p q r h = h
    go true true false p q r h = absurd (eqb-false m k r (sym (eqb-true (key a) m p) ∙ eqb-true (key a) k q))
    go true false true p q r h = h
    go true false false p q r h = h
    go false true true p q r h = absurd (eqb-false (key a) m p (eqb-true (key a) k q ∙ sym (eqb-true m k r)))
    go false true false p q r h = rw q
    go false false true p q r h = rw q h
    go false false false p q r h = rw q h

-- ---- one call

-- from the desk d to the desk e: no number is taken back, and who stood under k stands there, or was asked to leave
record Stays (d : Desk) (k : ℕ) (asked : Bool) (e : Desk) : Type 0 where
  next : d.next ≤ e.next
  standing : stands_as k e.standing ≡ cond asked none (stands_as k d.standing)

still : (d : Desk) (k : ℕ) → Stays d k false d
still d k = record { next = le_refl _; standing = refl }

-- under a number that was given nobody new comes
module _ (d : Desk) (k : ℕ) (given : k < d.next) where
  stays_place : (nodes : List ℤ) (v : Verdict Held) → Stays d k false (desk.placed d nodes v).desk
  unfolding first_with
  stays_place nodes (no f) = still d k
  stays_place nodes (yes h) =
      record { next = omega arith; standing = rw (ne_eqb d.next k (λ e. omega arith)) }

  stays_lift : (n : ℤ) (found : Found Standing) → stands_as (issue_of n) d.standing ≡ found →
      Stays d k (eqb (issue_of n) k) (desk.lifted d (known found)).desk
  stays_lift n none e = record { next = le_refl _; standing = go (eqb (issue_of n) k) refl }
    where
      go : (t : Bool) → eqb (issue_of n) k ≡ t →
          stands_as k d.standing ≡ cond t none (stands_as k d.standing)
      go true q = ap (λ (m : ℕ). stands_as m d.standing) (sym (eqb-true (issue_of n) k q)) ∙ e
      go false q = refl
  stays_lift n (some t) e =
      record {
        next = le_refl _;
        standing =
            find_without (λ (u : Standing). u.issue) k t.issue d.standing
            ∙ ap (λ (m : ℕ). cond (eqb m k) none (stands_as k d.standing))
            (eqb-true t.issue (issue_of n) (found_passes _ d.standing t e));
      }

  stays : (c : Call) → Stays d k (asks_to_lift k c) (step d c).desk
  unfolding step
  stays (load name bytes) = go (desk.may_load d name bytes)
    where
      go : (v : Verdict WorkedCard) → Stays d k false (desk.loaded d name v).desk
      go (no f) = still d k
      go (yes c) = record { next = omega arith; standing = refl }
  stays (place card nodes sized) = stays_place nodes (desk.may_place d card nodes)
  stays (move pairs) = go (desk.may_move d pairs)
    where
      go : (w : Verdict (List Shift)) → Stays d k false (desk.moved d w).desk
      go (no f) = still d k
      go (yes shifts) = record { next = le_refl _; standing = refl }
  stays (lift n) = stays_lift n (stands_as (issue_of n) d.standing) refl
  stays (withdraw n) = go (desk.may_withdraw d n)
    where
      go : (w : Verdict Held) → Stays d k false (desk.withdrawn d w).desk
      go (no f) = still d k
      go (yes h) = record { next = le_refl _; standing = refl }
  stays (look_up name) = go (desk.may_look_up d name)
    where
      go : (w : Verdict ℕ) → Stays d k false (desk.looked d w).desk
      go (no f) = still d k
      go (yes m) = still d k
  stays (node n) = go (desk.may_read n)
    where
      go : (w : Verdict ℕ) → Stays d k false (desk.showed d w).desk
      go (no f) = still d k
      go (yes m) = still d k
  stays (currents n) = go (desk.may_open d n)
    where
      go : (w : Verdict Standing) → Stays d k false (desk.opened d w).desk
      go (no f) = still d k
      go (yes t) = still d k
  stays (who n room) = go (desk.may_list d n room)
    where
      go : (w : Verdict ℕ) → Stays d k false (desk.listed d w).desk
      go (no f) = still d k
      go (yes m) = still d k
  stays (sum_up n) = go (desk.may_sum n)
    where
      go : (w : Verdict ℕ) → Stays d k false (desk.summed d w).desk
      go (no f) = still d k
      go (yes m) = still d k

-- ---- any calls

either : {A : Type 0} (t u : Bool) (x : Found A) → cond t none (cond u none x) ≡ cond (t || u) none x
either true u x = refl
either false u x = refl

stays_after : (calls later : List Call) (k : ℕ) → k < (after calls).next →
    Stays (after calls) k (any_of (asks_to_lift k) later) (after (later ++ calls))
unfolding after any_of
stays_after calls [] k h = still (after calls) k
stays_after calls (c ∷ later) k h =
    let s = stays_after calls later k h in
    let t = stays (after (later ++ calls)) k (le_trans h s.next) c in
    record {
      next = le_trans s.next t.next;
      standing =
          t.standing
          ∙ ap (cond (asks_to_lift k c) none) s.standing
          ∙ either (asks_to_lift k c) (any_of (asks_to_lift k) later) (stands_as k (after calls).standing);
    }

-- who stands has a number that was given
was_given : (d : Desk) → Orderly d → (k : ℕ) (t : Standing) → stands_as k d.standing ≡ some t → k < d.next
was_given d o k t e = go (below_or_not k d.next)
  where
    go : (k < d.next) ⊎ (d.next ≤ k) → k < d.next
    go (inl h) = h
    go (inr h) =
        let none-there = find_none_left (λ (u : Standing). eqb u.issue k) d.standing (o.standing.below k h) in
        clash cc

on_board : (calls : List Call) (k : ℕ) → stands_as k (after calls).standing ≡ stands_under k (board_after calls)
on_board calls k =
    transistor_by (board_after calls) (after calls) (invariant_after calls) (orderly_after calls) (stands_after calls) k

-- whoever stands under a number stands there as it is, or once a call has asked to lift it nobody does
pub stands_or_lifted : (calls later : List Call) (k : ℕ) (t : Standing) → stands_under k (board_after calls) ≡ some t →
    stands_under k (board_after (later ++ calls)) ≡ cond (any_of (asks_to_lift k) later) none (some t)
stands_or_lifted calls later k t e =
    let there = on_board calls k ∙ e in
    let h = was_given (after calls) (orderly_after calls) k t there in
    sym (on_board (later ++ calls) k)
    ∙ (stays_after calls later k h).standing
    ∙ ap (cond (any_of (asks_to_lift k) later) none) there

-- over any later calls that do not lift it, it still stands: on the same card as it was worked, and on the same nodes
pub others_keep_their_card : (calls later : List Call) (k : ℕ) (t : Standing) →
    any_of (asks_to_lift k) later ≡ false → stands_under k (board_after calls) ≡ some t →
    stands_under k (board_after (later ++ calls)) ≡ some t
others_keep_their_card calls later k t none-lifts e =
    stands_or_lifted calls later k t e ∙ ap (λ (u : Bool). cond u none (some t)) none-lifts

-- whatever was called in between, the same number is the same transistor
pub same_number_same_transistor : (calls later : List Call) (k : ℕ) (t u : Standing) →
    stands_under k (board_after calls) ≡ some t → stands_under k (board_after (later ++ calls)) ≡ some u → t ≡ u
same_number_same_transistor calls later k t u p q =
    go (any_of (asks_to_lift k) later) (sym (stands_or_lifted calls later k t p) ∙ q)
  where
    go : (b : Bool) → cond b none (some t) ≡ some u → t ≡ u
    go true e = clash cc
    go false e = cc
