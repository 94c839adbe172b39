-- Placing, lifting and moving change nothing else than they are said to, and tell no numbers beside their answer;
-- reading a node changes nothing.
use mathlib.Core.Path.{◌≡◌, refl}
use mathlib.Core.List.{List, []}
use Prim.Native.Nat.{ℕ}
use lib.IntN.{ℤ}
use Rattle.refusal.specs.Order.{Verdict, no, yes}
use Rattle.settle.specs.OfGiven.Pairs.{Shift}
use Rattle.model.specs.Board.{Board}
use Rattle.model.specs.declared.Answer.{Answer}
use Rattle.model.specs.Board.{Answered}
use Rattle.model.specs.Verdict.{node_verdict}
use Rattle.model.specs.Model.{leveled, no_ticks, plain, placed, seen_on, placed_of, may_place, moved, moved_of}
use Rattle.model.specs.Model.{may_move}
use Rattle.model.specs.Model.{lifted, lifted_of, may_lift, showed, showed_of}

-- b with other places of transistors, other sets, other totals and another next number
abbrev with_places : Board → List ℕ → List ℕ → List ℕ → List ℕ → List ℕ → List ℤ → List ℤ → ℕ → Board
with_places b issues cards seats nodes naming totals currents next =
    record {
      numbers = b.numbers;
      powers = b.powers;
      ticks = b.ticks;
      switches = b.switches;
      names = b.names;
      held = b.held;
      next = next;
      volts = b.volts;
      totals = totals;
      issues = issues;
      cards = cards;
      seats = seats;
      nodes = nodes;
      naming = naming;
      currents = currents;
    }

-- ---- nothing else changes

abbrev pub OnlyPlaces : Board → Board → Type 0
OnlyPlaces b c =
    c ≡ with_places b c.issues c.cards c.seats c.nodes c.naming c.totals c.currents c.next

pub place_only : (b : Board) (card : ℤ) (nodes : List ℤ) → OnlyPlaces b (placed_of b card nodes).board
unfolding placed_of
place_only b card nodes = go (may_place b card (seen_on b card nodes))
  where
    go : (v : Verdict ℕ) → OnlyPlaces b (placed b (seen_on b card nodes) v).board
    go (no f) = refl
    go (yes i) = refl

pub lift_only : (b : Board) (n : ℤ) → OnlyPlaces b (lifted_of b n).board
unfolding lifted_of
lift_only b n = go (may_lift b n)
  where
    go : (v : Verdict ℕ) → OnlyPlaces b (lifted b v).board
    go (no f) = refl
    go (yes i) = refl

abbrev pub OnlyLevels : Board → Board → Type 0
OnlyLevels b c = c ≡ leveled b (record { volts = c.volts; totals = c.totals }) c.currents

pub move_only : (b : Board) (pairs : List ℤ) → OnlyLevels b (moved_of b pairs).board
unfolding moved_of
move_only b pairs = go (may_move b pairs)
  where
    go : (w : Verdict (List Shift)) → OnlyLevels b (moved b w).board
    go (no f) = refl
    go (yes shifts) = refl

-- ---- and none of these calls tells numbers beside its answer

abbrev pub Plain : Answered → Type 0
Plain a = (a.ticks ≡ no_ticks) × (a.list ≡ [])

pub place_plain : (b : Board) (card : ℤ) (nodes : List ℤ) → Plain (placed_of b card nodes)
unfolding placed_of
place_plain b card nodes = go (may_place b card (seen_on b card nodes))
  where
    go : (v : Verdict ℕ) → Plain (placed b (seen_on b card nodes) v)
    go (no f) = (refl, refl)
    go (yes i) = (refl, refl)

pub lift_plain : (b : Board) (n : ℤ) → Plain (lifted_of b n)
unfolding lifted_of
lift_plain b n = go (may_lift b n)
  where
    go : (v : Verdict ℕ) → Plain (lifted b v)
    go (no f) = (refl, refl)
    go (yes i) = (refl, refl)

pub move_plain : (b : Board) (pairs : List ℤ) → Plain (moved_of b pairs)
unfolding moved_of
move_plain b pairs = go (may_move b pairs)
  where
    go : (w : Verdict (List Shift)) → Plain (moved b w)
    go (no f) = (refl, refl)
    go (yes shifts) = (refl, refl)

pub showed_whole : (b : Board) (n : ℤ) {answer : Answer} → answer ≡ (showed_of b n).answer →
    plain b answer ≡ showed_of b n
unfolding showed_of
showed_whole b n {answer} e = go (node_verdict n) e
  where
    go : (v : Verdict ℕ) → answer ≡ (showed b v).answer → plain b answer ≡ showed b v
    go (no f) e = rw e
    go (yes k) e = rw e
