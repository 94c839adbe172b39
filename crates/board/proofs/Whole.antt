-- What a call leaves in the arrays that it was lent is the whole next board: it changes nothing else.
use mathlib.Core.Path.{◌≡◌, refl, sym, ap, ◌∙◌}
use mathlib.Core.List.{List}
use Prim.Native.Nat.{ℕ}
use lib.IntN.{ℤ}
use Rattle.refusal.specs.Order.{Verdict, no, yes}
use Rattle.model.specs.Board as model
use Rattle.model.specs.declared.Answer.{Answer}
use Rattle.model.specs.Model.{no_ticks, placed_of, moved_of, lifted_of, showed_of}
use Rattle.model.proofs.Whole.{Plain, OnlyPlaces, OnlyLevels, place_only, place_plain, lift_only, lift_plain, move_only}
use Rattle.model.proofs.Whole.{move_plain, showed_whole}
use Rattle.reading.specs.OfLending.Rest.{Rest, State, board_in, rest_of}
use Rattle.reading.specs.OfLending.Lending.{Lent, lent_by, change_verdict, read_verdict}
use Rattle.reading.specs.OfLending.Lending.{placed_lent, moved_lent, lifted_lent, showed_lent}
use Rattle.reading.specs.OfLending.inner.Lent.{Lends, LendsPlaces, LendsStanding, LeavesLevels, LeavesPlaces}
use Rattle.board.specs.declared.Board.{Board}
use Rattle.board.specs.declared.Answered.{Answered}
use Rattle.board.specs.Promise.{board_of, given_as, handed_as}

-- ---- a board lends its own arrays

pub own_lends : (r : Rest) →
    Lends r r.numbers r.powers r.ticks r.switches r.issues r.seats r.nodes r.naming
    r.currents
own_lends r =
    record {
      numbers_are = refl;
      powers_are = refl;
      ticks_are = refl;
      switches_are = refl;
      issues_are = refl;
      seats_are = refl;
      nodes_are = refl;
      naming_are = refl;
      currents_are = refl;
    }

pub own_lends_places : (r : Rest) →
    LendsPlaces r r.numbers r.powers r.ticks r.switches r.held r.issues r.cards r.seats
    r.nodes r.naming r.currents r.next
own_lends_places r = record { lends = own_lends r; held_are = refl; cards_are = refl; next_is = refl }

pub own_standing : (r : Rest) →
    LendsStanding r r.issues r.cards r.seats r.nodes r.naming r.currents
own_standing r =
    record {
      issues_are = refl;
      cards_are = refl;
      seats_are = refl;
      nodes_are = refl;
      naming_are = refl;
      currents_are = refl;
    }

-- ---- nothing else changes

-- r with other places of transistors, other sets and another next number
abbrev pub with_places : Rest → List ℕ → List ℕ → List ℕ → List ℕ → List ℕ → List ℤ → ℕ → Rest
with_places r issues cards seats nodes naming currents next =
    record {
      numbers = r.numbers;
      powers = r.powers;
      ticks = r.ticks;
      switches = r.switches;
      names = r.names;
      held = r.held;
      next = next;
      issues = issues;
      cards = cards;
      seats = seats;
      nodes = nodes;
      naming = naming;
      currents = currents;
    }

-- and with other currents held
abbrev pub with_held : Rest → List ℤ → Rest
with_held r currents =
    with_places r r.issues r.cards r.seats r.nodes r.naming currents r.next

abbrev Same : Rest → Rest → Type 0
Same r q =
    q ≡ with_places r q.issues q.cards q.seats q.nodes q.naming q.currents q.next

abbrev Held : Rest → Rest → Type 0
Held r q = q ≡ with_held r q.currents

module _ (call : model.Board → model.Answered) (s : State) where
  places_by : OnlyPlaces (board_in s) (call (board_in s)).board → (v : Verdict Answer) →
      Same s.rest (lent_by s (call (board_in s)) v).state.rest
  places_by only (no f) = refl
  places_by only (yes told) = ap rest_of only

  held_by : OnlyLevels (board_in s) (call (board_in s)).board → (v : Verdict Answer) →
      Held s.rest (lent_by s (call (board_in s)) v).state.rest
  held_by only (no f) = refl
  held_by only (yes told) = ap rest_of only

  -- nor does it tell numbers beside its answer
  plain_by : Plain (call (board_in s)) → (v : Verdict Answer) → (lent_by s (call (board_in s)) v).ticks ≡ no_ticks
  plain_by none (no f) = refl
  plain_by none (yes told) = none.0

-- ---- so that what was left is the answer, whole

-- an answer without numbers
abbrev pub handed : Rest → Answer → Answered
handed r answer = record { board = board_of r; answer = answer; ticks = no_ticks }

abbrev told_as : Board → Answer → List ℤ → Answered
told_as b answer ticks = record { board = b; answer = answer; ticks = ticks }

-- what is told is handed on, where the rest is r and no numbers stand beside it
as_handed : {r : Rest} (l : Lent) → l.state.rest ≡ r → l.ticks ≡ no_ticks → handed r l.answer ≡ handed_as l
as_handed l e none =
    ap (λ (q : Rest). handed q l.answer) (sym e)
    ∙ ap (λ (t : List ℤ). told_as (board_of l.state.rest) l.answer t) (sym none)

places_whole : (s : State) {l : Lent} {answer : Answer} {issues cards seats nodes naming : List ℕ}
    {totals currents : List ℤ} {next : ℕ} → Same s.rest l.state.rest → l.ticks ≡ no_ticks →
    LeavesPlaces l answer issues cards seats nodes naming totals currents next →
    handed (with_places s.rest issues cards seats nodes naming currents next) answer ≡ handed_as l
places_whole s {l} only none left =
    rw (
      left.issues_are,
      left.cards_are,
      left.seats_are,
      left.nodes_are,
      left.naming_are,
      left.currents_are,
      left.next_is,
      left.answer_is,
    ) (as_handed l only none)

module _ (s : State) where
  pub placed_whole : (card : ℤ) (on : List ℤ) {answer : Answer} {issues cards seats nodes naming : List ℕ}
      {totals currents : List ℤ} {next : ℕ} →
      LeavesPlaces (placed_lent s card on) answer issues cards seats nodes naming totals currents next →
      handed (with_places s.rest issues cards seats nodes naming currents next) answer
      ≡ handed_as (placed_lent s card on)
  unfolding placed_lent
  placed_whole card on left =
      places_whole s (places_by (λ (b : model.Board). placed_of b card on) s (place_only (board_in s) card on)
      (change_verdict s (placed_of (board_in s) card on)))
      (plain_by (λ (b : model.Board). placed_of b card on) s (place_plain (board_in s) card on)
      (change_verdict s (placed_of (board_in s) card on))) left

  pub lifted_whole : (n : ℤ) {answer : Answer} {issues cards seats nodes naming : List ℕ} {totals currents : List ℤ} →
      LeavesPlaces (lifted_lent s n) answer issues cards seats nodes naming totals currents s.rest.next →
      handed (with_places s.rest issues cards seats nodes naming currents s.rest.next) answer
      ≡ handed_as (lifted_lent s n)
  unfolding lifted_lent
  lifted_whole n left =
      places_whole s (places_by (λ (b : model.Board). lifted_of b n) s (lift_only (board_in s) n)
      (change_verdict s (lifted_of (board_in s) n)))
      (plain_by (λ (b : model.Board). lifted_of b n) s (lift_plain (board_in s) n)
      (change_verdict s (lifted_of (board_in s) n))) left

  pub moved_whole : (pairs : List ℤ) {answer : Answer} {volts totals currents : List ℤ} →
      LeavesLevels (moved_lent s pairs) answer volts totals currents →
      handed (with_held s.rest currents) answer ≡ handed_as (moved_lent s pairs)
  unfolding moved_lent
  moved_whole pairs left =
      rw (left.currents_are, left.answer_is) (
      as_handed (moved_lent s pairs)
      (held_by (λ (b : model.Board). moved_of b pairs) s (move_only (board_in s) pairs)
      (change_verdict s (moved_of (board_in s) pairs)))
      (plain_by (λ (b : model.Board). moved_of b pairs) s (move_plain (board_in s) pairs)
      (change_verdict s (moved_of (board_in s) pairs)))
      )

  -- reading a node changes nothing
  pub showed_lent_whole : (n : ℤ) {answer : Answer} → answer ≡ (showed_lent s n).answer →
      handed s.rest answer ≡ handed_as (showed_lent s n)
  unfolding showed_lent
  showed_lent_whole n {answer} e = go (read_verdict s (showed_of (board_in s) n)) e
    where
      go : (v : Verdict Answer) → answer ≡ (lent_by s (showed_of (board_in s) n) v).answer →
          handed s.rest answer ≡ handed_as (lent_by s (showed_of (board_in s) n) v)
      go (no f) e = rw e
      go (yes told) e = ap given_as (showed_whole (board_in s) n e)
