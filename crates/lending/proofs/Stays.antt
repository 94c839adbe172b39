-- Placing, lifting and reading a node leave the slice of voltages as it was.
use mathlib.Core.Path.{◌≡◌, refl, ap, ◌∙◌}
use mathlib.Core.Bool.{Bool, true, false}
use mathlib.Core.List.{List, map}
use Prim.Native.Nat.{ℕ}
use lib.IntN.{ℤ}
use Rattle.refusal.specs.declared.Refusal.TheVariants.{OutOfReach, OutOfRange}
use Rattle.refusal.specs.Order.{Verdict, no, yes, refuse_if, and_then}
use Rattle.volts.specs.Volts.{given_back}
use Rattle.model.specs.OfSlices.Slices.{off_slices, some_outside}
use Rattle.model.proofs.OfSlices.Keeping.{volts_on, all_back}
use Rattle.model.specs.Board.{Board, Answered}
use Rattle.model.specs.declared.Answer.{Answer}
use Rattle.model.specs.Model.{placed, seen_on, placed_of, may_place, lifted, lifted_of, may_lift, showed_of}
use Rattle.model.proofs.Footing.{showed_stays}
use Rattle.lending.specs.Rest.{State, board_in}
use Rattle.lending.specs.Lending.{refusal_in, lent_by, changing, seeing, placed_lent, lifted_lent, showed_lent}

-- a call that leaves the kept voltages leaves the slice
module _ (call : Board → Answered) (leaves : (b : Board) → (call b).board.volts ≡ b.volts) (s : State) where
  back : off_slices s.volts s.totals ≡ false → (v : Verdict Answer) →
      (lent_by s (call (board_in s)) v).state.volts ≡ s.volts
  back on (no f) = refl
  back on (yes a) =
      ap (map given_back) (leaves (board_in s))
      ∙ all_back s.volts (volts_on s.volts s.totals on)

  -- what is asked after 13
  abbrev told : Verdict Answer
  told = refusal_in (call (board_in s)).answer

  abbrev last : Answer → Verdict Answer
  last a = refuse_if (some_outside (call (board_in s)).board.totals) OutOfReach (yes a)

  changing_stays : (changing call s).state.volts ≡ s.volts
  changing_stays = go (off_slices s.volts s.totals) refl
    where
      go : (off : Bool) → off_slices s.volts s.totals ≡ off →
          (lent_by s (call (board_in s)) (and_then (refuse_if off OutOfRange told) last)).state.volts ≡ s.volts
      go true e = refl
      go false e = back e (and_then told last)

  seeing_stays : (seeing call s).state.volts ≡ s.volts
  seeing_stays = go (off_slices s.volts s.totals) refl
    where
      go : (off : Bool) → off_slices s.volts s.totals ≡ off →
          (lent_by s (call (board_in s)) (refuse_if off OutOfRange told)).state.volts ≡ s.volts
      go true e = refl
      go false e = back e told

placed_volts : (card : ℤ) (nodes : List ℤ) (b : Board) → (placed_of b card nodes).board.volts ≡ b.volts
unfolding placed_of
placed_volts card nodes b = go (may_place b card (seen_on b card nodes))
  where
    go : (v : Verdict ℕ) → (placed b (seen_on b card nodes) v).board.volts ≡ b.volts
    go (no f) = refl
    go (yes i) = refl

lifted_volts : (n : ℤ) (b : Board) → (lifted_of b n).board.volts ≡ b.volts
unfolding lifted_of
lifted_volts n b = go (may_lift b n)
  where
    go : (v : Verdict ℕ) → (lifted b v).board.volts ≡ b.volts
    go (no f) = refl
    go (yes i) = refl

module _ (s : State) where
  pub place_volts_stay : (card : ℤ) (nodes : List ℤ) → (placed_lent s card nodes).state.volts ≡ s.volts
  unfolding placed_lent
  place_volts_stay card nodes = changing_stays (λ (b : Board). placed_of b card nodes) (placed_volts card nodes) s

  pub lift_volts_stay : (n : ℤ) → (lifted_lent s n).state.volts ≡ s.volts
  unfolding lifted_lent
  lift_volts_stay n = changing_stays (λ (b : Board). lifted_of b n) (lifted_volts n) s

  pub show_volts_stay : (n : ℤ) → (showed_lent s n).state.volts ≡ s.volts
  unfolding showed_lent
  show_volts_stay n =
      seeing_stays (λ (b : Board). showed_of b n) (λ b. ap (λ (c : Board). c.volts) (showed_stays b n)) s
