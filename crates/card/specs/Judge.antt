-- What loading says of a record: 1, 6, 7, 8, 19, 9, 10, or the worked card.
use Rattle.std.specs.Prelude.{Bool, false, not, Result, Ok, Err, List, ℕ, Float}
use Rattle.std.specs.Float.Ieee.{eq}
use Rattle.refusal.specs.declared.Refusal.{Refusal}
use Rattle.refusal.specs.declared.Refusal.TheVariants.{WrongLevel, BadExsub, NegativeIcss, BadOctave, OutOfReach}
use Rattle.refusal.specs.Told.{told}
use Rattle.refusal.specs.Order.{Verdict, yes, refuse_if, and_then, Answer, refused, given}
use Rattle.float.specs.Split.{split_of, no_split}
use Rattle.drawn.specs.OfClip.Limits.{zero, one}
use Rattle.drawn.specs.OfClip.Clip.{clip_of}
use Rattle.drawn.specs.OfWorking.Worked.{Worked}
use Rattle.drawn.specs.OfWorking.Work.{worked_of}
use Rattle.drawn.specs.OfLoading.Octave.{whole_part, octave_good}
use Rattle.drawn.specs.OfLoading.Knee.{knee_of}
use Rattle.drawn.specs.OfLoading.Numbers.{judged_numbers, has_leads, parameters_of, rcblx, rcbli, exsub, octave, level, vlr}
use Rattle.drawn.specs.OfLoading.Numbers.{polarity, minus_one, product, level504, spares_good, settings_good, icss_below}
use Rattle.drawn.specs.OfLoading.Numbers.{within_reach}
use Rattle.card.specs.declared.WorkedCard.{WorkedCard}

-- a card of fifteen worked values, each cut to a * 2^b, two octaves, V_Lr as it is kept, and five switches
abbrev pub card_from : Worked → ℕ → ℕ → ℕ → Bool → Bool → Bool → Bool → Bool → WorkedCard
card_from w o n v e z p y l = record {
  sn = split_of w.sn;
  bulk = split_of w.bulk;
  side = split_of w.side;
  nonideal = split_of w.nonideal;
  ex = split_of w.ex;
  sub = split_of w.sub;
  sf = split_of w.sf;
  rex = split_of w.rex;
  rsub = split_of w.rsub;
  reverse = split_of w.reverse;
  ge = split_of w.ge;
  gbc = split_of w.gbc;
  gcc = split_of w.gcc;
  gblx = split_of w.gblx;
  gbli = split_of w.gbli;
  octave = o;
  second = n;
  knee = v;
  exsub = e;
  rcbli_zero = z;
  pnp = p;
  rcblx_zero = y;
  wide = l;
}

-- the worked card of clipped numbers
abbrev pub card_of : List Float → WorkedCard
card_of x =
    card_from (worked_of (parameters_of x)) (whole_part (octave x)) (whole_part (product x)) (knee_of (vlr x))
    (eq (exsub x) one) (eq (rcbli x) zero) (eq (polarity x) minus_one) (eq (rcblx x) zero) (has_leads x)

-- what stands where there is no card
abbrev pub no_worked : WorkedCard
no_worked = record {
  sn = no_split;
  bulk = no_split;
  side = no_split;
  nonideal = no_split;
  ex = no_split;
  sub = no_split;
  sf = no_split;
  rex = no_split;
  rsub = no_split;
  reverse = no_split;
  ge = no_split;
  gbc = no_split;
  gcc = no_split;
  gblx = no_split;
  gbli = no_split;
  octave = 0;
  second = 0;
  knee = 0;
  exsub = false;
  rcbli_zero = false;
  pnp = false;
  rcblx_zero = false;
  wide = false;
}

-- of clipped numbers: 10, or else their worked card
abbrev pub reach_of : List Float → Verdict WorkedCard
reach_of x = refuse_if (not (within_reach x)) OutOfReach (yes (card_of x))

-- 7, 8, 19, 9, and then that
abbrev pub judge_numbers : Bool → List Float → Verdict WorkedCard
judge_numbers spares x =
    refuse_if (not (eq (level x) level504)) WrongLevel
    (refuse_if (not (settings_good spares x)) BadExsub
    (refuse_if (icss_below x) NegativeIcss (refuse_if (not (octave_good (octave x))) BadOctave (reach_of x))))

-- of a record: clipping's 1 and 6 first
unfoldable pub judge_of : List ℕ → Verdict WorkedCard
judge_of s = and_then (clip_of s) (λ t. judge_numbers (spares_good s) (judged_numbers s))

-- what the answer tells
abbrev pub told_judged : Result WorkedCard Refusal → Answer WorkedCard
told_judged (Ok c) = given c
told_judged (Err f) = refused (told f)
