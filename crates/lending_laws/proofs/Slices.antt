-- The voltages and totals of a board that calls have left, as slices: 32 numbers each, every voltage in its range, and
-- no total outside 64 bits. Kept again, they are what the board keeps.
use mathlib.Core.Path.{◌≡◌, refl, ap, ◌∙◌}
use mathlib.Core.Bool.{Bool, false, not, ◌||◌}
use mathlib.Core.List.{List, [], ◌∷◌, map}
use mathlib.Core.Logic.{◌⊎◌, inl, inr}
use Prim.Native.Nat.{ℕ, suc, ◌-◌, ◌≤◌, ◌<◌}
use native.Mathlib.Omega.{arith}
use lib.Dec.{eqb}
use lib.ListN.{length, get_or, length-map}
use lib.IntN.{ℤ, pos, negsuc, nat_abs}
use borrow.Author.Tests.{le-ltb, lt-leb, eq-eqb}
use Rattle.whole.specs.Signed.{signed_span}
use Rattle.whole.specs.laws.Biased.{sub_up, sub_down, below_or_not}
use Rattle.volts.specs.Volts.{volts_most, span, off_volts, kept_as, given_back}
use Rattle.given.specs.Lists.{any_of}
use Rattle.slices.specs.Slices.{off_slices, outside64, some_outside}
use Rattle.slices.proofs.Passing.{none_passes}
use Rattle.model.specs.Board.{Board}
use Rattle.model.specs.Counts.{nodes_most}
use Rattle.model.specs.Model.{cards_of, transistors_of, volts_of}
use Rattle.model.proofs.NodeSums.{totals_room}
use Rattle.model.proofs.Invariant.{Invariant, totals_long}
use Rattle.lending.specs.Rest.{board_in, state_of}

-- ---- voltages

-- what is kept as x is kept as x again
kept_again : (x : ℕ) → kept_as (given_back x) ≡ x
kept_again x = split (below_or_not x volts_most)
  where
    split : (x < volts_most) ⊎ (volts_most ≤ x) → kept_as (given_back x) ≡ x
    split (inl h) = ap kept_as (sub_down x volts_most h) ∙ omega arith
    split (inr h) = ap kept_as (sub_up x volts_most h) ∙ omega arith

all_kept : (l : List ℕ) → map kept_as (map given_back l) ≡ l
all_kept [] = refl
all_kept (x ∷ l) = let here = kept_again x in let rest = all_kept l in λ j. here j ∷ rest j

-- the board is that of its slices
pub board_again : (b : Board) → board_in (state_of b) ≡ b
board_again b =
    λ j. record {
      numbers = b.numbers;
      powers = b.powers;
      ticks = b.ticks;
      switches = b.switches;
      names = b.names;
      held = b.held;
      next = b.next;
      volts = all_kept b.volts j;
      totals = b.totals;
      issues = b.issues;
      cards = b.cards;
      seats = b.seats;
      nodes = b.nodes;
      naming = b.naming;
      currents = b.currents;
    }

near_on : (x : ℕ) → x ≤ span → off_volts (given_back x) ≡ false
near_on x n = split (below_or_not x volts_most)
  where
    split : (x < volts_most) ⊎ (volts_most ≤ x) → off_volts (given_back x) ≡ false
    split (inl h) = ap off_volts (sub_down x volts_most h) ∙ le-ltb (volts_most - 1) (volts_most - suc x) (omega arith)
    split (inr h) =
        ap off_volts (sub_up x volts_most h)
        ∙ ap (λ (t : Bool). t || false) (le-ltb volts_most (x - volts_most) (omega arith))

none_off : (l : List ℕ) → ((i : ℕ) → get_or l i 0 ≤ span) → any_of off_volts (map given_back l) ≡ false
unfolding any_of
none_off [] h = refl
none_off (x ∷ l) h = rw (near_on x (h 0)) (none_off l (λ i. h (suc i)))

-- ---- totals

small_inside : (z : ℤ) → nat_abs z < signed_span → outside64 z ≡ false
small_inside (pos n) h = ap (λ (t : Bool). t || false) (lt-leb signed_span n h)
small_inside (negsuc n) h = le-ltb (signed_span - 1) n (omega arith)

-- ---- the slices of a board

module _ {b : Board} (inv : Invariant b) where
  pub slices_on : off_slices (volts_of b) b.totals ≡ false
  slices_on =
      let v : length (volts_of b) ≡ nodes_most = length-map b.volts given_back ∙ inv.kept.long in
      let t = totals_long inv in
      ap (λ (x : Bool). not x || (not (eqb (length b.totals) nodes_most) || any_of off_volts (volts_of b)))
      (eq-eqb (length (volts_of b)) nodes_most v)
      ∙ ap (λ (x : Bool). not x || any_of off_volts (volts_of b)) (eq-eqb (length b.totals) nodes_most t)
      ∙ none_off b.volts inv.kept.near.each

  pub totals_inside : some_outside b.totals ≡ false
  totals_inside =
      let r = (totals_room (cards_of b) (transistors_of b) (volts_of b) inv.footing.footed.transistors_long).within in
      none_passes outside64 (pos 0) b.totals
      (λ i h. small_inside (get_or b.totals i (pos 0)) (rw inv.holds.balanced (omega (arith, r i))))
