-- Every worked case agrees with the paper's value: one theorem over the whole list, computed by the checker.
use mathlib.Core.Path.{◌≡◌, refl, ap, ap₂, ◌∙◌}
use mathlib.Core.Bool.{false, true}
use mathlib.Core.List.{List, [], ◌∷◌, map}
use Prim.Native.Nat.{ℕ}
use lib.Dec.{leb}
use lib.ListN.{take, replicate}
use lib.IntN.{ℤ, pos, negsuc}
use lib.Ieee.{of_bits, to_bits, lt, eq, ne, le, whole, mul, div, sub, to_unsigned, to_signed, neg, size}
use Rattle.refusal.specs.Order.{Verdict, yes}
use Rattle.name.specs.Name.{asked, padded}
use Rattle.roots.specs.Root.{root_bits, root_of}
use Rattle.volts.specs.Volts.{volts_most}
use Rattle.octave.specs.Table.{entries, entry_of}
use Rattle.float.specs.declared.Split.{Split}
use Rattle.float.specs.Split.{kept_power}
use Rattle.card.specs.declared.WorkedCard.{WorkedCard}
use Rattle.clip.specs.Record.{finite_up}
use Rattle.clip.specs.Clip.{clipped_up, clipped_at, mask_up, clip_of}
use Rattle.card.specs.Judge.{judge_of}
use Rattle.card.specs.inner.Worked.{IsWorked}
use Rattle.card_laws.proofs.WorkedCards.{judged_is_worked}
use Rattle.terms.specs.Rows.{roles}
use Rattle.terms.specs.Looked.{looked_at}
use Rattle.scaling.specs.Scaled.{exp_of}
use Rattle.rows.specs.Ticks.{root_for}
use Rattle.rows.specs.Outcome.{outcome_across}
use Rattle.polarity.specs.Polarity.{outcome_of}
use Rattle.terms.specs.inner.Ready.{ready_of, Askable}
use Rattle.terms.proofs.Laws.{askable}
use Rattle.totals.specs.Gives.{rows_give}
use Rattle.totals.specs.Flow.{over_at, overloads, ticks_at, ticks_give, flow, sum_below, with_more}
use Rattle.rows.specs.inner.FromTerms.{list_up}
use Rattle.given.specs.Lists.{any_of}
use Rattle.given.specs.Arguments.{used_up}
use Rattle.deck.specs.Stretch.{stretch, written}
use Rattle.deck.specs.Layout.{ready_at, cards_most}
use Rattle.places.specs.Gathered.{cards_in, transistors_in}
use Rattle.places.specs.Finding.{first, free_card}
use Rattle.flows.specs.Back.{ticks_back}
use Rattle.settle.specs.Change.{change_by, changes}
use Rattle.settle.specs.First.{first_below}
use Rattle.settle.specs.Renewed.{renewed}
use Rattle.model.specs.Board.{Board}
use Rattle.model.specs.Verdict.{load_order, load_verdict, place_verdict, move_verdict}
use Rattle.given.specs.Pairs.{some_pair_off, shifts_of, shifted_in}
use Rattle.model.specs.Model.{cards_of, transistors_of, fresh_board, loaded, loaded_of, placed_of, moved_of}
use Rattle.paper.specs.Words.{record_of}
use Rattle.paper.specs.Cases.{the_card, on_seven, the_board, the_stage, lifts, Case, board_case, stage_case, cases}

-- ---- the board: its card is worked once, and the calls go on from that

abbrev none : Split
none = record { a = 0; down = kept_power (pos 0) }

-- 2^-40, and 2^-38
abbrev current : Split
current = record { a = 1073741824; down = kept_power (negsuc 69) }

abbrev ratio : Split
ratio = record { a = 1073741824; down = kept_power (negsuc 67) }

abbrev worked : WorkedCard
worked = record {
  sn = current;
  bulk = current;
  side = none;
  nonideal = none;
  ex = current;
  sub = none;
  sf = none;
  rex = ratio;
  rsub = ratio;
  reverse = none;
  ge = none;
  gbc = none;
  gcc = none;
  gblx = none;
  gbli = none;
  octave = 16000000;
  second = 16000000;
  knee = 5000000;
  exsub = false;
  rcbli_zero = true;
  pnp = false;
  rcblx_zero = true;
  wide = false;
}

card_is : judge_of (record_of the_card) ≡ yes worked
unfolding record_of judge_of clip_of finite_up clipped_up clipped_at of_bits lt eq ne le whole mul div sub to_unsigned to_signed
    neg size
card_is = refl

abbrev a1 : List ℕ
a1 = 0x61 ∷ 0x31 ∷ []

-- loading, with the judgement given
loaded_from : Verdict WorkedCard → Board
loaded_from judged =
    (loaded fresh_board a1
    (load_order a1 (record_of the_card) judged (leb cards_most (free_card (cards_of fresh_board))) (used_up fresh_board.next))
    ).board

run_from : Board → Board
run_from b =
    (moved_of (moved_of (placed_of b (pos 1) (on_seven (pos 0 ∷ pos 1 ∷ pos 1 ∷ pos 2 ∷ pos 2 ∷ pos 2 ∷ pos 3 ∷ []))).board
    (pos 1 ∷ pos 16000 ∷ [])).board (pos 2 ∷ pos 16000 ∷ [])).board

board_from : the_board ≡ run_from (loaded_from (judge_of (record_of the_card)))
unfolding the_board run_from loaded_from loaded_of load_verdict
board_from = refl

totals_from : take 4 (run_from (loaded_from (yes worked))).totals ≡ negsuc 2047 ∷ pos 1024 ∷ pos 1024 ∷ pos 0 ∷ []
unfolding run_from loaded_from loaded_of placed_of looked_at moved_of fresh_board record_of entry_of entries exp_of root_for root_of
    root_bits ready_of outcome_across outcome_of asked padded place_verdict move_verdict over_at overloads rows_give flow
    sum_below with_more list_up any_of first stretch written ready_at cards_in transistors_in ticks_back ticks_give ticks_at
    renewed change_by changes first_below cards_of transistors_of some_pair_off shifts_of shifted_in
totals_from = refl

board_row : board_case.worked ≡ board_case.paper
unfolding board_case
board_row = ap (λ (b : Board). take 4 b.totals)
    (board_from ∙ ap (λ (j : Verdict WorkedCard). run_from (loaded_from j)) card_is) ∙ totals_from

-- ---- the stage

stage_from : Board → Board
stage_from b =
    (moved_of
    (placed_of
    (placed_of b (pos 1) (on_seven (pos 2 ∷ pos 1 ∷ pos 1 ∷ pos 3 ∷ pos 3 ∷ pos 3 ∷ pos 0 ∷ []))).board
    (pos 1) (on_seven (pos 1 ∷ pos 2 ∷ pos 2 ∷ pos 3 ∷ pos 3 ∷ pos 3 ∷ pos 0 ∷ []))).board
    (pos 3 ∷ pos 2000000 ∷ [])).board

stage_from_lem : the_stage ≡ stage_from (loaded_from (judge_of (record_of the_card)))
unfolding the_stage stage_from loaded_from loaded_of load_verdict
stage_from_lem = refl

stage_lifts : lifts (stage_from (loaded_from (yes worked))) ≡ pos 15 ∷ pos 15 ∷ pos 0 ∷ []
unfolding stage_from loaded_from loaded_of placed_of looked_at moved_of fresh_board record_of entry_of entries exp_of root_for
    root_of root_bits ready_of outcome_across outcome_of asked padded place_verdict move_verdict over_at overloads rows_give flow
    sum_below with_more list_up any_of first stretch written ready_at cards_in transistors_in ticks_back ticks_give ticks_at
    renewed change_by changes first_below cards_of transistors_of some_pair_off shifts_of shifted_in
stage_lifts = refl

-- a stage that cannot be lifted one node after the other can be lifted together
pub only_together : stage_case.worked ≡ stage_case.paper
unfolding stage_case
only_together = ap lifts (stage_from_lem ∙ ap (λ (j : Verdict WorkedCard). stage_from (loaded_from j)) card_is) ∙ stage_lifts

-- ---- all of them

abbrev tail : List Case → List Case
tail [] = []
tail (c ∷ rest) = rest

other_rows : map (λ (c : Case). c.worked) (tail (tail cases)) ≡ map (λ (c : Case). c.paper) (tail (tail cases))
unfolding cases entries finite_up clipped_up clipped_at mask_up of_bits to_bits lt eq ne le whole mul div sub to_unsigned
    to_signed neg size exp_of root_for root_of root_bits
other_rows = refl

abbrev first_then : List ℤ → List (List ℤ) → List (List ℤ)
first_then l ls = l ∷ ls

pub paper_agrees : map (λ (c : Case). c.worked) cases ≡ map (λ (c : Case). c.paper) cases
unfolding cases
paper_agrees = ap₂ first_then board_row (ap₂ first_then only_together other_rows)

-- ---- what the inner functions ask can be met: by the paper's card

pub worked_card : IsWorked worked
worked_card = judged_is_worked (record_of the_card) worked card_is

pub askable_card : Askable entries (ready_of worked) (replicate roles volts_most)
askable_card = askable worked worked_card
