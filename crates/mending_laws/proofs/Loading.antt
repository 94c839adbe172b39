-- Loading and mending: a record draws 19 only where mending would change it, so no card of a mended library draws it.
use mathlib.Core.Path.{◌≡◌, refl, sym, ◌∙◌, ap}
use mathlib.Core.Bool.{Bool, true, false, not, cond, ◌&&◌}
use mathlib.Core.List.{List, []}
use Prim.Native.Nat.{ℕ}
use native.Mathlib.Omega.{arith}
use lib.ListN.{get_or}
use lib.Ieee.{Float, lt, eq}
use lib.Ieee.Scale.{finite}
use Rattle.refusal.specs.declared.Refusal.TheVariants.{Malformed, NotFinite, WrongLevel, BadExsub, NegativeIcss}
use Rattle.refusal.specs.declared.Refusal.TheVariants.{BadOctave, OutOfReach}
use Rattle.refusal.specs.Clash.{clash}
use Rattle.refusal.specs.Order as order
use Rattle.refusal.specs.Order.{Verdict, refuse_if}
use Rattle.clip.specs.Numbers as number
use Rattle.clip.specs.Limits.{zero, plain_of}
use Rattle.clip.specs.Record.{is_wide, right_length, width_of, number_at, finite_up}
use Rattle.clip.specs.Clip.{clipped_at}
use Rattle.card.specs.declared.WorkedCard.{WorkedCard}
use Rattle.loading.specs.Octave.{octave_good}
use Rattle.loading.specs.Numbers.{judged_numbers, level, level504, octave, icss, spares_good, settings_good, icss_below}
use Rattle.loading.specs.Numbers.{within_reach}
use Rattle.card.specs.Judge.{card_of, judge_numbers, judge_of}
use Rattle.card_laws.specs.laws.Tells.{judge_order}
use Rattle.loading.proofs.Clipped.{each_finite, each_judged, in_both}
use Rattle.directory.specs.Judged.{Sound}
use Rattle.signals.specs.Records.{signals}
use Rattle.mending.specs.Mended.{records_in, mended_of}
use Rattle.mending_laws.proofs.OneRecord.{zero_not_below}
use Rattle.mending_laws.proofs.Libraries.{quiet_in}

-- 1 and 6 were passed
passed : (a b : Bool) (v : Verdict WorkedCard)
    → refuse_if (not a) Malformed (refuse_if (not b) NotFinite v) ≡ order.no NegativeIcss
    → (b ≡ true) × (v ≡ order.no NegativeIcss)
passed true true v e = (refl, e)
passed true false v e = clash cc
passed false b v e = clash cc

-- and of the tests after them the third draws it
third : (a b n c d : Bool) (w : WorkedCard)
    → refuse_if (not a) WrongLevel
    (refuse_if (not b) BadExsub
    (refuse_if n NegativeIcss (refuse_if (not c) BadOctave (refuse_if (not d) OutOfReach (order.yes w)))))
    ≡ order.no NegativeIcss
    → n ≡ true
third true true true c d w e = refl
third true true false true true w e = clash cc
third true true false true false w e = clash cc
third true true false false d w e = clash cc
third true false n c d w e = clash cc
third false b n c d w e = clash cc

-- what is below zero after its zeros are made plain was so before
plain_below : (x : Float) → lt (plain_of x) zero ≡ true → lt x zero ≡ true
plain_below x e = of (eq x zero) e
  where
    of : (b : Bool) → lt (cond b zero x) zero ≡ true → lt x zero ≡ true
    of true e = let h = zero_not_below in clash cc
    of false e = e

below : (r : List ℕ) (x : List Float) → icss x ≡ clipped_at r number.icss → icss_below x ≡ true
    → lt (number_at r number.icss) zero ≡ true
unfolding clipped_at
below r x e h = plain_below (number_at r number.icss) (ap (λ (v : Float). lt v zero) (sym e) ∙ h)

both : (a b : Bool) → a ≡ true → b ≡ true → (a && b) ≡ true
both a b e f = rw (e, f)

pub draws_19 : (r : List ℕ) → judge_of r ≡ order.no NegativeIcss → signals r ≡ true
draws_19 r e =
    let x = judged_numbers r in
    let p = passed (right_length r) (finite_up r (width_of r)) (judge_numbers (spares_good r) x) (sym (judge_order r) ∙ e) in
    let n =
    third (eq (level x) level504) (settings_good (spares_good r) x) (icss_below x) (octave_good (octave x)) (within_reach x)
    (card_of x) p.1 in
    let l = in_both (is_wide r) number.icss (omega arith) in
    both (finite (number_at r number.icss)) (lt (number_at r number.icss) zero)
    (each_finite r (width_of r) number.icss l p.0)
    (below r x (each_judged r (is_wide r) number.icss l) n)

pub none_draws_19 : (s : List ℕ) → Sound s → (i : ℕ)
    → judge_of (get_or (records_in (mended_of s)) i []) ≡ order.no NegativeIcss → ⊥
none_draws_19 s g i e =
    let a = draws_19 (get_or (records_in (mended_of s)) i []) e in
    let b = quiet_in s g i in clash cc
