-- What clipping's answer says of loading: the same refusal, or that the tests go on with the clipped numbers.
use mathlib.Core.Path.{◌≡◌, sym, ap, subst, ◌∙◌}
use mathlib.Core.Bool.{Bool, true, false, not, cond}
use mathlib.Core.List.{List, [], ◌∷◌, ◌++◌, append-nil, append_assoc}
use Prim.Native.Nat.{ℕ}
use native.Mathlib.Omega.{arith}
use lib.ListN.{length, set, length-append}
use lib.Seq.{set_at}
use lib.Ieee.{Float}
use borrow.Author.Tests.{not-false}
use Rattle.refusal.specs.declared.Refusal.{Refusal}
use Rattle.refusal.specs.declared.Refusal.TheVariants.{Malformed, NotFinite}
use Rattle.refusal.specs.Told.{told}
use Rattle.refusal.specs.Order.{refuse_if, yes, tells, refused, passes_if}
use Rattle.std.specs.Prelude.{Result, Ok, Err}
use Rattle.drawn.specs.OfClip.Clipping.{Clipping}
use Rattle.drawn.specs.OfClip.Numbers as number
use Rattle.drawn.specs.OfClip.Limits.{zero, one, wide, narrow}
use Rattle.drawn.specs.OfClip.Record.{is_wide, right_length, width_of, finite_up}
use Rattle.drawn.specs.OfClip.Clip.{clipped_up, padded_up, clip_of, Clips}
use Rattle.drawn.specs.OfLoading.Numbers.{numbers_for, spares_good}
use Rattle.card.specs.Judge.{judge_numbers, judge_of}
use Rattle.missing.specs.inner.Filled.{filled_with}
use Rattle.drawn.specs.OfLoading.inner.Mlf.{GoodMlf}
use Rattle.drawn.specs.OfClip.laws.Unique.{clip_taken, clip_refused}
use Rattle.drawn.proofs.OfLoading.Clipped.{long, good_mlf}

all_finite_lem : (s : List ℕ) → clip_of s ≡ yes tt → finite_up s (width_of s) ≡ true
unfolding clip_of
all_finite_lem s e =
    let f = finite_up s (width_of s) in
    let right = passes_if (not (right_length s)) Malformed (refuse_if (not f) NotFinite (yes tt)) tt e in
    not-false f (passes_if (not f) NotFinite (yes tt) tt right.1).0

-- ---- what clipping gives, filled, is what is judged: the polarity alone is not the zero that stands there
before : List Float
before = zero ∷ zero ∷ zero ∷ zero ∷ zero ∷ []

filled_is : (s : List ℕ) (b : Bool) → filled_with b (padded_up s (cond b wide narrow)) ≡ numbers_for b s
unfolding before
filled_is s true = append-nil (clipped_up s wide)
filled_is s false =
    let p = clipped_up s narrow in
    let h : length (p ++ before) ≡ number.polarity = length-append p before ∙ omega (arith, long s narrow) in
    ap (λ (l : List Float). set l number.polarity one) (sym (append_assoc p before (zero ∷ zero ∷ zero ∷ [])))
    ∙ set_at (p ++ before) zero (zero ∷ zero ∷ []) one number.polarity h
    ∙ append_assoc p before (one ∷ zero ∷ zero ∷ [])

pub record Went (s : List ℕ) (x : List Float) : Type 0 where
  pub good : GoodMlf x
  pub next : judge_of s ≡ judge_numbers (spares_good s) x

module _ {s : List ℕ} {r : Result Clipping Refusal} (c : Clips s r) where
  pub went : {k : Clipping} → r ≡ Ok k → {x : List Float} → x ≡ filled_with (is_wide s) k.numbers → Went s x
  unfolding judge_of
  went {k} t ex =
      let e = clip_taken (clip_of s) c.answer t in
      let n : k.numbers ≡ padded_up s (width_of s) = rw (t, e) at c.numbers in
      let j = ex ∙ ap (filled_with (is_wide s)) n ∙ filled_is s (is_wide s) in
      record { good = subst GoodMlf (sym j) (good_mlf s (is_wide s) (all_finite_lem s e)); next = rw (e, j) }

  pub stays : (f : Refusal) → r ≡ Err f → refused (told f) ≡ tells (judge_of s)
  unfolding judge_of
  stays f t = rw (clip_refused (clip_of s) c.answer t)
