-- The orders of refusals: what the board's verdicts say of the desk's own facts is what the desk says.
use mathlib.Core.Path.{◌≡◌, refl}
use mathlib.Core.List.{List, map}
use Prim.Native.Nat.{ℕ}
use lib.Dec.{eqb, leb}
use lib.ListN.{length}
use lib.IntN.{ℤ, nat_abs}
use Rattle.refusal.specs.declared.Refusal.TheVariants.{NoRoom, OutOfRange, SplitCollector, NumbersUsedUp}
use Rattle.refusal.specs.Order.{yes, refuse_if, and_then}
use Rattle.name.specs.Name.{padded}
use Rattle.model.specs.Counts.{cards_most, transistors_most}
use Rattle.given.specs.Arguments.{Found, none, some, issue_of, some_node_off, ties_of, torn, wide_by, known, used_up}
use Rattle.terms.specs.Looked.{looked_at}
use Rattle.given.specs.Pairs.{shifts_of}
use Rattle.model.specs.Verdict.{load_verdict, place_verdict, move_verdict, lift_verdict, withdraw_verdict, look_verdict}
use Rattle.model.specs.Verdict.{node_verdict, open_verdict, refuse_over}
use Rattle.model.specs.Faults.{refuse_first, faults_of}
use Rattle.std.specs.Prelude.{Option}
use Rattle.settle.specs.declared.First.{First}
use Rattle.settle.specs.First.{first_by, first_issue}
use Rattle.model.specs.Desk.{Held, Standing, Desk, highest, looked_by, moved_to, faults_at, held_as, stands_as}
use Rattle.totals.specs.Flow.{over_at}
use Rattle.given.specs.Lists.{any_of}
use Rattle.model.specs.Desk.{may_load, may_place, may_move, may_lift, may_withdraw, may_look_up, may_read, may_open}
use Rattle.days.proofs.Faults.{refuse_over_lem}

module _ (d : Desk) where
  pub order_load : (name bytes : List ℕ) →
      load_verdict name bytes (leb cards_most (length d.cards)) (used_up d.next) ≡ may_load d name bytes
  unfolding load_verdict
  order_load name bytes = refl

  -- what the card that is asked for looks at of the nodes
  abbrev pub seen_in : ℤ → List ℤ → List ℤ
  seen_in card nodes = looked_at (wide_by (λ (h : Held). h.worked.wide) (held_as (issue_of card) d.cards)) nodes

  pub order_place : (card : ℤ) (nodes : List ℤ) →
      place_verdict (held_as (issue_of card) d.cards) (λ (h : Held). ties_of h.worked)
      (λ (h : Held). over_at h.worked (map nat_abs (seen_in card nodes)) d.volts) d.next (seen_in card nodes)
      (leb transistors_most (length d.standing)) (used_up d.next)
      ≡ may_place d card nodes
  unfolding place_verdict
  order_place card nodes = go (held_as (issue_of card) d.cards)
    where
      seen : Found Held → List ℤ
      seen found = looked_at (wide_by (λ (h : Held). h.worked.wide) found) nodes

      go : (found : Found Held) →
          place_verdict found (λ (h : Held). ties_of h.worked)
          (λ (h : Held). over_at h.worked (map nat_abs (seen found)) d.volts) d.next (seen found)
          (leb transistors_most (length d.standing)) (used_up d.next)
          ≡ and_then (known found)
          (λ (h : Held). refuse_if (some_node_off (looked_by h nodes)) OutOfRange
          (refuse_if (torn (ties_of h.worked) (looked_by h nodes)) SplitCollector
          (refuse_if (leb transistors_most (length d.standing)) NoRoom
          (refuse_if (used_up d.next) NumbersUsedUp
          (refuse_first (faults_of d.next h.worked (map nat_abs (looked_by h nodes)) d.volts) (yes h))))))
      go none = refl
      go (some h) = rw (refuse_over_lem d.next h.worked (map nat_abs (looked_by h nodes)) d.volts (yes h))

  -- of the first by which the desk would refuse, if by any
  pub order_move : (pairs : List ℤ) (f : Option First) →
      refuse_over (first_issue f) (first_by f) (yes (shifts_of pairs))
      ≡ refuse_first (faults_at d (moved_to d.volts (shifts_of pairs))) (yes (shifts_of pairs)) →
      move_verdict pairs f ≡ may_move d pairs
  unfolding move_verdict
  order_move pairs f e = rw e

  pub order_lift : (n : ℤ) → lift_verdict (stands_as (issue_of n) d.standing) ≡ may_lift d n
  unfolding lift_verdict
  order_lift n = refl

  pub order_withdraw : (n : ℤ) →
      withdraw_verdict (held_as (issue_of n) d.cards)
      (λ (h : Held). any_of (λ (t : Standing). eqb t.card h.issue) d.standing)
      ≡ may_withdraw d n
  unfolding withdraw_verdict
  order_withdraw n = refl

  pub order_look : (name : List ℕ) → look_verdict name (highest (padded name) d.cards) ≡ may_look_up d name
  unfolding look_verdict
  order_look name = refl

  pub order_open : (n : ℤ) → open_verdict (stands_as (issue_of n) d.standing) ≡ may_open d n
  unfolding open_verdict
  order_open n = refl

pub order_read : (n : ℤ) → node_verdict n ≡ may_read n
unfolding node_verdict
order_read n = refl
