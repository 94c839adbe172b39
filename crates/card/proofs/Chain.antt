-- Loading's answer on clipped numbers, test by test.
use mathlib.Core.Path.{◌≡◌, refl, sym, ap, ◌∙◌}
use mathlib.Core.Bool.{Bool, true, false, not}
use mathlib.Core.List.{List}
use Prim.Native.Nat.{ℕ}
use lib.Ieee.{Float, eq}
use Rattle.refusal.specs.declared.Refusal.{Refusal}
use Rattle.refusal.specs.declared.Refusal.TheVariants.{WrongLevel, BadExsub, NegativeIcss, BadOctave, OutOfReach}
use Rattle.refusal.specs.Told.{told}
use Rattle.refusal.specs.Clash.{clash}
use Rattle.refusal.specs.Order.{Verdict, no, refuse_if, refused, given, tells}
use Rattle.std.specs.Prelude.{Result, Some, None, Ok, Err}
use Rattle.drawn.specs.OfWorking.Worked.{Worked}
use Rattle.card.specs.declared.WorkedCard.{WorkedCard}
use Rattle.drawn.specs.OfClip.Limits.{zero, one}
use Rattle.drawn.specs.OfWorking.Work.{worked_of, all_finite}
use Rattle.drawn.specs.OfLoading.Octave.{whole_part, octave_good, second_good}
use Rattle.drawn.specs.OfLoading.Knee.{knee_good, knee_of}
use Rattle.drawn.specs.OfLoading.Numbers.{has_leads, parameters_of, exsub, rcblx, rcbli, octave, level, vlr, product, polarity}
use Rattle.drawn.specs.OfLoading.Numbers.{minus_one, level504, settings_good, icss_below, within_reach}
use Rattle.card.specs.Judge.{card_from, card_of, reach_of, judge_numbers}
use Rattle.settings.specs.OfOctaves.inner.Second.{second_if, second_of}
use Rattle.settings.specs.inner.Tests.{unless_passed, first_wrong}

-- ---- the second octave's answer
told_second : (b : Bool) (k n : ℕ) → second_if b k ≡ Some n → (b ≡ true) × (n ≡ k)
told_second true k n e = (refl, cc)
told_second false k n e = clash cc

told_out : (b : Bool) (k : ℕ) → second_if b k ≡ None → b ≡ false
told_out true k e = clash cc
told_out false k e = refl

-- ---- 7, 8, 19, 9
module _ (e f g h : Refusal) where
  -- the tests a, b and c are to be passed, and n is not to hold: what the code makes of them, and the order of refusals
  abbrev first : Bool → Bool → Bool → Bool → Result (Unit {0}) Refusal
  first a b n c = unless_passed a e (unless_passed b f (unless_passed (not n) g (unless_passed c h (Ok tt))))

  abbrev order : Bool → Bool → Bool → Bool → Verdict WorkedCard → Verdict WorkedCard
  order a b n c v = refuse_if (not a) e (refuse_if (not b) f (refuse_if n g (refuse_if (not c) h v)))

  none_wrong : (a b n c : Bool) (v : Verdict WorkedCard) → first a b n c ≡ Ok tt
      → (order a b n c v ≡ v) × (c ≡ true)
  none_wrong true true false true v t = (refl, refl)
  none_wrong true true false false v t = clash cc
  none_wrong true true true c v t = clash cc
  none_wrong true false n c v t = clash cc
  none_wrong false b n c v t = clash cc

  some_wrong : (a b n c : Bool) (v : Verdict WorkedCard) (k : Refusal) → first a b n c ≡ Err k
      → order a b n c v ≡ no k
  some_wrong true true false true v k t = clash cc
  some_wrong true true false false v k t = cc
  some_wrong true true true c v k t = cc
  some_wrong true false n c v k t = cc
  some_wrong false b n c v k t = cc

module _ (spares : Bool) (x : List Float) {r : Result (Unit {0}) Refusal} (e : r ≡ first_wrong spares x) where
  pub goes_on : r ≡ Ok tt → (judge_numbers spares x ≡ reach_of x) × (octave_good (octave x) ≡ true)
  goes_on t =
      none_wrong WrongLevel BadExsub NegativeIcss BadOctave (eq (level x) level504) (settings_good spares x)
      (icss_below x) (octave_good (octave x)) (reach_of x) (sym e ∙ t)

  pub stops : (f : Refusal) → r ≡ Err f → judge_numbers spares x ≡ no f
  stops f t =
      some_wrong WrongLevel BadExsub NegativeIcss BadOctave (eq (level x) level504) (settings_good spares x)
      (icss_below x) (octave_good (octave x)) (reach_of x) f (sym e ∙ t)

-- ---- 10
module _ (x : List Float) where
  out_of_reach : within_reach x ≡ false → refused (told OutOfReach) ≡ tells (reach_of x)
  out_of_reach r = rw r

  module _ (k : ℕ) (p : second_of (product x) ≡ Some k) where
    pub knee_out : knee_good (vlr x) ≡ false → refused (told OutOfReach) ≡ tells (reach_of x)
    knee_out g = out_of_reach (rw ((told_second (second_good (product x)) _ k p).0, g))

    module _ (g : knee_good (vlr x) ≡ true) (w : Worked) (ew : w ≡ worked_of (parameters_of x)) where
      reach : within_reach x ≡ all_finite w
      reach = rw ((told_second (second_good (product x)) _ k p).0, g, ew)

      pub not_all : all_finite w ≡ false → refused (told OutOfReach) ≡ tells (reach_of x)
      not_all a = out_of_reach (reach ∙ a)

      pub taken : (n v : ℕ) (l : Bool) (c : WorkedCard) → n ≡ whole_part (octave x) → v ≡ knee_of (vlr x)
          → l ≡ has_leads x
          → c ≡ card_from w n k v (eq (exsub x) one) (eq (rcbli x) zero) (eq (polarity x) minus_one) (eq (rcblx x) zero) l
          → all_finite w ≡ true → given c ≡ tells (reach_of x)
      taken n v l c en ev el ec a =
          let card : c ≡ card_of x = ec ∙ rw (en, (told_second (second_good (product x)) _ k p).1, ev, el, ew) in
          ap given card ∙ rw (reach, a)
