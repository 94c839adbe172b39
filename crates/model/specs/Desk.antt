-- The desk by its own bookkeeping: the cards held, the transistors standing, each with the very card it was placed
-- with, the voltages and the next issue number.
-- No place, no array, no stored total, no held current and no set of places is known here.
use Rattle.std.specs.Prelude.{◌≡◌, Bool, true, false, cond, not, List, [], ◌∷◌, map, ℕ, suc, eqb, leb, ltb, get_or, replicate, length, ℤ, pos, nat_abs}
use Rattle.refusal.specs.declared.Refusal.{Refusal}
use Rattle.refusal.specs.declared.Refusal.TheVariants.{Malformed, BadName, NameNotHeld, NoRoom, OutOfRange}
use Rattle.refusal.specs.declared.Refusal.TheVariants.{SplitCollector, CardInUse, NumbersUsedUp, ShortOutput}
use Rattle.refusal.specs.Order.{Verdict, no, yes, refuse_if, and_then}
use Rattle.name.specs.Name.{asked, padded, same}
use Rattle.card.specs.Judge.{judge_of}
use Rattle.clip.specs.Record.{right_length}
use Rattle.card.specs.declared.WorkedCard.{WorkedCard}
use Rattle.settle.specs.OfTerms.Rows.{roles}
use Rattle.settle.specs.OfTerms.Looked.{looked_at}
use Rattle.settle.specs.OfTotals.Flow.{ticks_at, flow, sum_over}
pub use Rattle.settle.specs.OfGiven.Lists.{keep_if}
use Rattle.settle.specs.OfGiven.Lists.{any_of, only, larger, largest, in_order, different}
use Rattle.settle.specs.OfGiven.Arguments.{Found, none, some, issue_of, off_node, some_node_off, ties_of, torn, known, used_up}
use Rattle.settle.specs.OfGiven.Pairs.{are_pairs, some_pair_off, Shift, shifts_of, shifted_in}
use Rattle.model.specs.Counts.{nodes_most, cards_most, transistors_most}
use Rattle.model.specs.Largest.{size_at}
use Rattle.model.specs.Faults.{Fault, refuse_first, faults_of, faults_among}

pub record Held : Type 0 where
  pub issue : ℕ
  pub name : List ℕ
  pub worked : WorkedCard

pub record Standing : Type 0 where
  pub issue : ℕ
  pub card : ℕ
  pub worked : WorkedCard
  pub nodes : List ℕ

pub record Desk : Type 0 where
  pub cards : List Held
  pub standing : List Standing
  pub volts : List ℤ
  pub next : ℕ

pub data Call : Type 0 where
  load : List ℕ → List ℕ → Call
  place : ℤ → (nodes : List ℤ) → length nodes ≡ roles → Call
  move : List ℤ → Call
  lift : ℤ → Call
  withdraw : ℤ → Call
  look_up : List ℕ → Call
  node : ℤ → Call
  currents : ℤ → Call
  who : ℤ → (room : ℕ) → Call
  sum_up : ℤ → Call

-- one node moved: a list of one pair
abbrev pub move_one : ℤ → ℤ → Call
move_one n v = move (n ∷ v ∷ [])

pub data Reply : Type 0 where
  issued : ℕ → Reply
  done : Reply
  shows : ℤ → ℤ → Reply
  carries : List ℤ → Reply
  lists : List ℕ → Reply
  sums : ℕ → ℕ → ℕ → Reply
  refused : Refusal → Reply

pub record Step : Type 0 where
  pub reply : Reply
  pub desk : Desk

-- ---- totals

-- a node's total: the sum over the transistors standing
unfoldable pub total : Desk → ℕ → ℤ
unfolding sum_over
total d n = sum_over (λ (t : Standing). flow t.worked t.nodes d.volts n) d.standing

-- ---- looking through what is there

abbrev pub if_true : {A : Type 0} → Bool → A → Found A → Found A
if_true true a next = some a
if_true false a next = next

unfoldable pub first_with : {A : Type 0} → (A → Bool) → List A → Found A
first_with p [] = none
first_with p (a ∷ rest) = if_true (p a) a (first_with p rest)

-- those of another key
unfoldable pub without : {A : Type 0} → (A → ℕ) → ℕ → List A → List A
without key n [] = []
without key n (a ∷ rest) = keep_if (not (eqb (key a) n)) a (without key n rest)

-- the highest issue among the cards of a name; 0 where there is none
unfoldable pub highest : List ℕ → List Held → ℕ
highest name [] = 0
highest name (h ∷ hs) = larger (cond (same h.name name) h.issue 0) (highest name hs)

-- ---- the calls, one clause each

abbrev pub refuse : Desk → Refusal → Step
refuse d f = record { reply = refused f; desk = d }

-- a new card
abbrev pub loaded : Desk → List ℕ → Verdict WorkedCard → Step
loaded d name (no f) = refuse d f
loaded d name (yes c) =
    record {
      reply = issued d.next;
      desk =
          record {
            cards = record { issue = d.next; name = padded name; worked = c } ∷ d.cards;
            standing = d.standing;
            volts = d.volts;
            next = suc d.next;
          };
    }

-- what a card looks at of the nodes that are given
abbrev pub looked_by : Held → List ℤ → List ℤ
looked_by h nodes = looked_at h.worked.wide nodes

-- a new transistor, which keeps the card as it is now
abbrev pub placed : Desk → List ℤ → Verdict Held → Step
placed d nodes (no f) = refuse d f
placed d nodes (yes h) =
    record {
      reply = issued d.next;
      desk =
          record {
            cards = d.cards;
            standing =
                record {
                  issue = d.next;
                  card = h.issue;
                  worked = h.worked;
                  nodes = map nat_abs (looked_by h nodes);
                } ∷ d.standing;
            volts = d.volts;
            next = suc d.next;
          };
    }

-- the voltages as nodes are moved to theirs, the last pair of a node holding
abbrev pub moved_to : List ℤ → List Shift → List ℤ
moved_to = shifted_in (λ (v : ℤ). v)

abbrev pub moved : Desk → Verdict (List Shift) → Step
moved d (no f) = refuse d f
moved d (yes shifts) =
    record {
      reply = done;
      desk =
          record { cards = d.cards; standing = d.standing; volts = moved_to d.volts shifts; next = d.next };
    }

abbrev pub lifted : Desk → Verdict Standing → Step
lifted d (no f) = refuse d f
lifted d (yes t) =
    record {
      reply = done;
      desk =
          record {
            cards = d.cards;
            standing = without (λ (u : Standing). u.issue) t.issue d.standing;
            volts = d.volts;
            next = d.next;
          };
    }

abbrev pub withdrawn : Desk → Verdict Held → Step
withdrawn d (no f) = refuse d f
withdrawn d (yes h) =
    record {
      reply = done;
      desk =
          record {
            cards = without (λ (u : Held). u.issue) h.issue d.cards;
            standing = d.standing;
            volts = d.volts;
            next = d.next;
          };
    }

abbrev pub looked : Desk → Verdict ℕ → Step
looked d (no f) = refuse d f
looked d (yes n) = record { reply = issued n; desk = d }

abbrev pub showed : Desk → Verdict ℕ → Step
showed d (no f) = refuse d f
showed d (yes n) = record { reply = shows (get_or d.volts n (pos 0)) (total d n); desk = d }

-- the currents of a transistor's branches, worked from its card at the present voltages
abbrev pub opened : Desk → Verdict Standing → Step
opened d (no f) = refuse d f
opened d (yes t) = record { reply = carries (ticks_at t.worked t.nodes d.volts); desk = d }

-- the transistors that name the node n, and their issue numbers in rising order
abbrev pub standing_on : Desk → ℕ → List Standing
standing_on d n = only (λ (t : Standing). any_of (λ (m : ℕ). eqb m n) t.nodes) d.standing

abbrev pub issues_on : Desk → ℕ → List ℕ
issues_on d n = in_order (map (λ (t : Standing). t.issue) (standing_on d n))

abbrev pub listed : Desk → Verdict ℕ → Step
listed d (no f) = refuse d f
listed d (yes n) = record { reply = lists (issues_on d n); desk = d }

-- how many transistors name a node, on how many cards, and the largest size of a branch that starts or ends there, each
-- worked at the present voltages
abbrev pub summed : Desk → Verdict ℕ → Step
summed d (no f) = refuse d f
summed d (yes n) =
    record {
      reply =
          sums (length (standing_on d n)) (different (map (λ (t : Standing). t.card) (standing_on d n)))
          (largest
          (map (λ (t : Standing). size_at n t.nodes (ticks_at t.worked t.nodes d.volts)) (standing_on d n)));
      desk = d;
    }

-- all that would overload in the transistors that stand, at these voltages
abbrev pub faults_at : Desk → List ℤ → List Fault
faults_at d volts = faults_among (λ (t : Standing). faults_of t.issue t.worked t.nodes volts) d.standing

abbrev pub held_as : ℕ → List Held → Found Held
held_as n cards = first_with (λ (h : Held). eqb h.issue n) cards

abbrev pub stands_as : ℕ → List Standing → Found Standing
stands_as n ts = first_with (λ (t : Standing). eqb t.issue n) ts

-- ---- which refusal a call gets: its tests in the paper's order, each with the number that it draws

-- Loading: 1, 2, 6, 7, 8, 19, 9, 10, 11, 17
abbrev pub may_load : Desk → List ℕ → List ℕ → Verdict WorkedCard
may_load d name bytes =
    refuse_if (not (right_length bytes)) Malformed
    (refuse_if (not (asked name)) BadName
    (and_then (judge_of bytes)
    (λ (c : WorkedCard). refuse_if (leb cards_most (length d.cards)) NoRoom
    (refuse_if (used_up d.next) NumbersUsedUp (yes c)))))

-- Placing: 12, then on the nodes that the card looks at 13, 14, 11, 17, then 15 or 18 for the first that would
-- overload, with the number to come
abbrev pub may_place : Desk → ℤ → List ℤ → Verdict Held
may_place d card nodes =
    and_then (known (held_as (issue_of card) d.cards))
    (λ (h : Held). refuse_if (some_node_off (looked_by h nodes)) OutOfRange
    (refuse_if (torn (ties_of h.worked) (looked_by h nodes)) SplitCollector
    (refuse_if (leb transistors_most (length d.standing)) NoRoom
    (refuse_if (used_up d.next) NumbersUsedUp
    (refuse_first (faults_of d.next h.worked (map nat_abs (looked_by h nodes)) d.volts) (yes h))))))

-- Moving voltages together: 1, 13 for any pair, then 15 or 18 for the first that would overload where they end, of all
-- transistors that stand
abbrev pub may_move : Desk → List ℤ → Verdict (List Shift)
may_move d pairs =
    refuse_if (not (are_pairs pairs)) Malformed
    (refuse_if (some_pair_off pairs) OutOfRange
    (refuse_first (faults_at d (moved_to d.volts (shifts_of pairs))) (yes (shifts_of pairs))))

-- Lifting: 12
abbrev pub may_lift : Desk → ℤ → Verdict Standing
may_lift d n = known (stands_as (issue_of n) d.standing)

-- Withdrawing: 12, 16
abbrev pub may_withdraw : Desk → ℤ → Verdict Held
may_withdraw d n =
    and_then (known (held_as (issue_of n) d.cards))
    (λ (h : Held). refuse_if (any_of (λ (t : Standing). eqb t.card h.issue) d.standing) CardInUse (yes h))

-- Looking a name up: 2, 4; 0 is the highest issue where no card of the name is held
abbrev pub may_look_up : Desk → List ℕ → Verdict ℕ
may_look_up d name =
    refuse_if (not (asked name)) BadName
    (refuse_if (eqb (highest (padded name) d.cards) 0) NameNotHeld (yes (highest (padded name) d.cards)))

-- Reading a node: 13
abbrev pub may_read : ℤ → Verdict ℕ
may_read n = refuse_if (off_node n) OutOfRange (yes (nat_abs n))

-- Reading a transistor's currents: 12
abbrev pub may_open : Desk → ℤ → Verdict Standing
may_open d n = known (stands_as (issue_of n) d.standing)

-- Listing who names a node: 13, then 5 where there is no room for all
abbrev pub may_list : Desk → ℤ → ℕ → Verdict ℕ
may_list d n room =
    refuse_if (off_node n) OutOfRange
    (refuse_if (ltb room (length (issues_on d (nat_abs n)))) ShortOutput (yes (nat_abs n)))

-- Summing a node up: 13
abbrev pub may_sum : ℤ → Verdict ℕ
may_sum n = refuse_if (off_node n) OutOfRange (yes (nat_abs n))

-- ---- one call

unfoldable pub step : Desk → Call → Step
step d (load name bytes) = loaded d name (may_load d name bytes)
step d (place card nodes sized) = placed d nodes (may_place d card nodes)
step d (move pairs) = moved d (may_move d pairs)
step d (lift n) = lifted d (may_lift d n)
step d (withdraw n) = withdrawn d (may_withdraw d n)
step d (look_up name) = looked d (may_look_up d name)
step d (node n) = showed d (may_read n)
step d (currents n) = opened d (may_open d n)
step d (who n room) = listed d (may_list d n room)
step d (sum_up n) = summed d (may_sum n)

-- a fresh desk
unfoldable pub fresh_desk : Desk
fresh_desk = record { cards = []; standing = []; volts = replicate nodes_most (pos 0); next = 1 }

-- the desk after calls, the last one first in the list
unfoldable pub after : List Call → Desk
unfolding fresh_desk step
after [] = fresh_desk
after (c ∷ cs) = (step (after cs) c).desk
