-- The number that loading tells is that of the first test that fails, in the rules' order; 0 where the record is taken.
use Rattle.std.specs.Prelude.{◌≡◌, Bool, not, List, ℕ, Float}
use Rattle.std.proofs.Common.{ap, ◌∙◌}
use Rattle.std.specs.Float.Ieee.{eq}
use Rattle.refusal.specs.declared.Refusal.TheVariants.{Malformed, NotFinite}
use Rattle.refusal.specs.Order.{refuse_if, number_told, number_if, number_first, then_if}
use Rattle.card.specs.OfClip.Record.{right_length, width_of, finite_up}
use Rattle.card.specs.OfClip.Clip.{clip_of}
use Rattle.card.specs.OfLoading.Octave.{octave_good}
use Rattle.card.specs.OfLoading.Numbers.{judged_numbers, level, level504, octave, spares_good, settings_good, icss_below}
use Rattle.card.specs.OfLoading.Numbers.{within_reach}
use Rattle.card.specs.Judge.{judge_numbers, judge_of}

-- the name and the board apart: on clipped numbers, then from the bytes
abbrev pub numbers_number : Bool → List Float → ℕ
numbers_number spares x =
    number_if (not (eq (level x) level504)) 7
    (number_if (not (settings_good spares x)) 8
    (number_if (icss_below x) 19
    (number_if (not (octave_good (octave x))) 9 (number_if (not (within_reach x)) 10 0))))

abbrev pub judge_number : List ℕ → ℕ
judge_number s =
    number_if (not (right_length s)) 1
    (number_if (not (finite_up s (width_of s))) 6 (numbers_number (spares_good s) (judged_numbers s)))

-- loading's order whole: clipping's tests, and then those of the clipped numbers
pub judge_order : (s : List ℕ)
    → judge_of s
    ≡ refuse_if (not (right_length s)) Malformed
    (refuse_if (not (finite_up s (width_of s))) NotFinite (judge_numbers (spares_good s) (judged_numbers s)))
unfolding clip_of judge_of
judge_order s =
    simp then_if

pub judge_tells : (s : List ℕ) → number_told (judge_of s) ≡ judge_number s
judge_tells s =
    ap number_told (judge_order s) ∙ simp number_first
