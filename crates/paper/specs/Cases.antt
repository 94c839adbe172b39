-- The worked cases that are proved, as one list. Each works a value from the very definitions that the contracts
-- cite; `paper_agrees` in proofs/ is the theorem.
use Rattle.std.specs.Prelude.{Option, Some, None}
use Rattle.std.specs.Prelude.{List, [], ◌∷◌, ◌++◌, ℕ, get_or, take, replicate, ℤ, pos, negsuc, neg_ℤ}
use Rattle.std.specs.Float.{nan, binary64}
use Rattle.std.specs.Float.Ieee.{to_bits}
use Rattle.refusal.specs.Order.{Verdict, no, yes}
use Rattle.refusal.specs.Told.{number_of}
use Rattle.octave.specs.Table.{entry_of}
use Rattle.octave.specs.Exponential.{exponential_of}
use Rattle.float.specs.declared.Split.{Split}
use Rattle.float.specs.Split.{kept_power}
use Rattle.card.specs.declared.WorkedCard.{WorkedCard}
use Rattle.clip.specs.Clip.{clip_of, numbers_of, mask_of}
use Rattle.card.specs.Judge.{judge_of}
use Rattle.rows.specs.declared.Over.{Over}
use Rattle.rows.specs.declared.Over.TheVariants.{Ticks, Injection}
use Rattle.terms.specs.Rows.{roles}
use Rattle.rows.specs.Outcome.{told_over, told_ticks, outcome_across}
use Rattle.polarity.specs.Polarity.{outcome_of}
use Rattle.model.specs.declared.Answer.{Answer}
use Rattle.model.specs.declared.Answer.TheVariants.{Issue, Done, Node, Currents, Listed, Summed, Refused}
use Rattle.model.specs.Board.{Board}
use Rattle.model.specs.Model.{fresh_board, loaded_of, placed_of, moved_of}
use Rattle.paper.specs.Words.{one, two, four, minus_zero, two_to_minus_40, two_to_minus_38, words_of, record_of}

-- the paper's card
abbrev pub the_card : List ℕ
the_card = words_of two_to_minus_40 one 0 one

-- ---- ways of working

-- row k, from 0, of a judged card, with the base at v microvolts and every other role at 0
abbrev pub ticks_at : Verdict WorkedCard → ℕ → ℤ → List ℤ
ticks_at (no f) k v = []
ticks_at (yes c) k v =
    get_or (told_ticks (outcome_of c (pos 0 ∷ v ∷ v ∷ pos 0 ∷ pos 0 ∷ pos 0 ∷ pos 0 ∷ []))) k (pos 0) ∷ []

-- the ideal value 2^-40 with less-one is row 2 of the paper's card
unfoldable pub ideal : ℤ → List ℤ
unfolding record_of judge_of outcome_across outcome_of
ideal v = ticks_at (judge_of (record_of the_card)) 1 v

-- m at v microvolts, for the card's octave: it shows the table where a current's rounding hides it
unfoldable pub mantissa_at : ℤ → ℤ
unfolding exponential_of
mantissa_at v = pos (exponential_of v 16000000).m

-- a card whose I_s is its I_k, 2^-38, so that 0 microvolts are near the knee
abbrev knee : List ℕ
knee = words_of two_to_minus_38 two_to_minus_38 0 four

unfoldable pub five : ℤ → List ℤ
unfolding record_of judge_of outcome_across outcome_of
five v = ticks_at (judge_of (record_of knee)) 4 v

-- row 1 of a judged card, at these voltages from B2 to E1 and from B2 to C2
abbrev pub main_of : Verdict WorkedCard → ℤ → ℤ → List ℤ
main_of (no f) e c = []
main_of (yes w) e c =
    get_or (told_ticks (outcome_of w (neg_ℤ e ∷ pos 0 ∷ pos 0 ∷ pos 0 ∷ neg_ℤ c ∷ pos 0 ∷ pos 0 ∷ []))) 0 (pos 0) ∷ []

unfoldable pub main_at : ℤ → ℤ → List ℤ
unfolding record_of judge_of outcome_across outcome_of
main_at e c = main_of (judge_of (record_of knee)) e c

-- what overloads: nothing, or a row by its T or by its ratio
abbrev pub over_numbers : Option Over → List ℤ
over_numbers None = []
over_numbers (Some (Ticks k)) = pos 15 ∷ pos k ∷ []
over_numbers (Some (Injection k)) = pos 18 ∷ pos k ∷ []

-- the paper's card with this a * 2^b in place of s_n, at 0 microvolts throughout
abbrev pub with_sn : Split → Verdict WorkedCard → List ℤ
with_sn s (no f) = []
with_sn s (yes c) =
    over_numbers
    (told_over
    (outcome_of
    (record {
      sn = s;
      bulk = c.bulk;
      side = c.side;
      nonideal = c.nonideal;
      ex = c.ex;
      sub = c.sub;
      sf = c.sf;
      rex = c.rex;
      rsub = c.rsub;
      reverse = c.reverse;
      ge = c.ge;
      gbc = c.gbc;
      gcc = c.gcc;
      gblx = c.gblx;
      gbli = c.gbli;
      octave = c.octave;
      second = c.second;
      knee = c.knee;
      exsub = c.exsub;
      rcbli_zero = c.rcbli_zero;
      pnp = c.pnp;
      rcblx_zero = c.rcblx_zero;
      wide = c.wide;
    })
    (replicate roles (pos 0))))

-- the mask of a record's clipping, and the bits of its number i
abbrev pub clip_shows : ℕ → List ℕ → List ℤ
clip_shows i s = pos (mask_of s) ∷ pos (to_bits binary64 (get_or (numbers_of s) i nan)) ∷ []

-- the nodes of a transistor of version 1, and for the roles that it has not none of the board's
abbrev pub on_seven : List ℤ → List ℤ
on_seven nodes = nodes ++ replicate 4 (negsuc 0)

-- the paper's board: the card loaded as a1, one transistor placed, nodes 1 and 2 moved to 16,000 microvolts
unfoldable pub the_board : Board
unfolding fresh_board record_of loaded_of placed_of moved_of
the_board =
    let loaded = (loaded_of fresh_board (0x61 ∷ 0x31 ∷ []) (record_of the_card)).board in
    let placed = (placed_of loaded (pos 1)
    (on_seven (pos 0 ∷ pos 1 ∷ pos 1 ∷ pos 2 ∷ pos 2 ∷ pos 2 ∷ pos 3 ∷ []))).board in
    (moved_of (moved_of placed (pos 1 ∷ pos 16000 ∷ [])).board (pos 2 ∷ pos 16000 ∷ [])).board

-- a stage: two transistors of the card, the base of each on the other's emitter, and their collectors at 2 V
unfoldable pub the_stage : Board
unfolding fresh_board record_of loaded_of placed_of moved_of
the_stage =
    let loaded = (loaded_of fresh_board (0x61 ∷ 0x31 ∷ []) (record_of the_card)).board in
    let one = (placed_of loaded (pos 1) (on_seven (pos 2 ∷ pos 1 ∷ pos 1 ∷ pos 3 ∷ pos 3 ∷ pos 3 ∷ pos 0 ∷ []))).board in
    let two = (placed_of one (pos 1) (on_seven (pos 1 ∷ pos 2 ∷ pos 2 ∷ pos 3 ∷ pos 3 ∷ pos 3 ∷ pos 0 ∷ []))).board in
    (moved_of two (pos 3 ∷ pos 2000000 ∷ [])).board

-- the number of a refusal; 0 for what is done
abbrev pub refusal_in : Answer → ℤ
refusal_in (Refused f) = pos (number_of f)
refusal_in (Issue n) = pos 0
refusal_in Done = pos 0
refusal_in (Node v t) = pos 0
refusal_in Currents = pos 0
refusal_in (Listed n) = pos 0
refusal_in (Summed t c s) = pos 0

-- lifted by 2 V: one node, the other, and both together
abbrev pub lifts : Board → List ℤ
lifts b =
    refusal_in (moved_of b (pos 1 ∷ pos 2000000 ∷ [])).answer
    ∷ refusal_in (moved_of b (pos 2 ∷ pos 2000000 ∷ [])).answer
    ∷ refusal_in (moved_of b (pos 1 ∷ pos 2000000 ∷ pos 2 ∷ pos 2000000 ∷ [])).answer
    ∷ []

-- ---- the table

pub record Case : Type 0 where
  pub worked : List ℤ
  pub paper : List ℤ

-- totals of nodes 0 to 3
unfoldable pub board_case : Case
unfolding the_board
board_case = record { worked = take 4 the_board.totals; paper = negsuc 2047 ∷ pos 1024 ∷ pos 1024 ∷ pos 0 ∷ [] }

-- neither node of the stage can be lifted alone, both can together
unfoldable pub stage_case : Case
unfolding the_stage
stage_case = record { worked = lifts the_stage; paper = pos 15 ∷ pos 15 ∷ pos 0 ∷ [] }

unfoldable pub cases : List Case
unfolding entry_of mantissa_at ideal five main_at record_of judge_of outcome_across outcome_of clip_of board_case stage_case
cases =
    board_case
    ∷ stage_case
    ∷ record {
      worked = pos (entry_of 0) ∷ pos (entry_of 128) ∷ pos (entry_of 256) ∷ [];
      paper = pos 1073741824 ∷ pos 1518500249 ∷ pos 2147483648 ∷ [];
    }
    ∷ record {
      worked = mantissa_at (negsuc 0) ∷ mantissa_at (pos 1) ∷ mantissa_at (pos 8000) ∷ [];
      paper = pos 2147370236 ∷ pos 1073787311 ∷ pos 1518500249 ∷ [];
    }
    ∷ record { worked = ideal (pos 0); paper = pos 0 ∷ [] }
    ∷ record { worked = ideal (pos 16000); paper = pos 1024 ∷ [] }
    ∷ record { worked = ideal (negsuc 15999); paper = negsuc 511 ∷ [] }
    ∷ record { worked = ideal (pos 8000); paper = pos 424 ∷ [] }
    ∷ record { worked = ideal (pos 1); paper = pos 0 ∷ [] }
    ∷ record { worked = ideal (negsuc 0); paper = negsuc 0 ∷ [] }
    ∷ record { worked = five (pos 16000); paper = pos 512 ∷ [] }
    ∷ record { worked = five (negsuc 15999); paper = negsuc 373 ∷ [] }
    ∷ record { worked = main_at (pos 16000) (pos 0); paper = pos 1564 ∷ [] }
    ∷ record { worked = main_at (pos 0) (pos 16000); paper = negsuc 1563 ∷ [] }
    ∷ record { worked = main_at (negsuc 15999) (pos 0); paper = negsuc 1031 ∷ [] }
    ∷ record { worked = main_at (pos 0) (negsuc 15999); paper = pos 1032 ∷ [] }
    ∷ record { worked = main_at (pos 16000) (negsuc 15999); paper = pos 2596 ∷ [] }
    ∷ record { worked = main_at (pos 16000) (pos 16000); paper = pos 0 ∷ [] }
    ∷ record { worked = main_at (pos 0) (pos 0); paper = pos 0 ∷ [] }
    ∷ record {
      worked = with_sn (record { a = 1073741825; down = kept_power (negsuc 26) }) (judge_of (record_of the_card));
      paper = pos 15 ∷ pos 1 ∷ [];
    }
    ∷ record { worked = clip_shows 4 (record_of (words_of two_to_minus_40 one two one)); paper = pos 16 ∷ pos one ∷ [] }
    ∷ record { worked = clip_shows 4 (record_of (words_of two_to_minus_40 one one one)); paper = pos 0 ∷ pos one ∷ [] }
    ∷ record { worked = clip_shows 1 (record_of (words_of minus_zero one 0 one)); paper = pos 0 ∷ pos 0 ∷ [] }
    ∷ []
