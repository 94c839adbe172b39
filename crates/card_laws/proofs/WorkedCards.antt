-- What is sure of a card that loading takes: its splits, its octaves and its V_Lr are within bounds.
use mathlib.Core.Path.{◌≡◌, sym, ap, subst, ◌∙◌}
use mathlib.Core.Bool.{true, false, not}
use mathlib.Core.List.{List, [], ◌∷◌}
use Prim.Native.Nat.{ℕ, ◌≤◌}
use native.Mathlib.Omega.{arith}
use lib.Dec.{T}
use lib.IntN.{pos, sub_ℕ}
use lib.Ieee.{Float, fin, binary64, of_bits, eq, le, mul, fits}
use lib.Ieee.Fits.{mul-fits, div-fits, cond-fits}
use lib.Ieee.Positive.{positive, le→cross}
use lib.Ieee.Scale.{finite}
use borrow.Author.Tests.{leb-true, not-false}
use Rattle.refusal.specs.declared.Refusal.TheVariants.{Malformed, NotFinite, WrongLevel, BadExsub, BadOctave}
use Rattle.refusal.specs.declared.Refusal.TheVariants.{NegativeIcss, OutOfReach}
use Rattle.refusal.specs.Order.{Verdict, yes, refuse_if, passes_if}
use Rattle.float.specs.Split.{split_b, split_of, split_bias, IsSplit}
use Rattle.float.proofs.Kept.{is_split, power_kept}
use Rattle.card.specs.OfWorking.Parameters.{Parameters}
use Rattle.card.specs.declared.WorkedCard.{WorkedCard}
use Rattle.card.specs.OfClip.Limits.{zero}
use Rattle.card.specs.OfClip.Record.{is_wide, right_length, width_of, finite_up}
use Rattle.card.specs.OfWorking.Work.{million, conductance_of, worked_of, leads_of, values_of, all}
use Rattle.card.specs.OfLoading.Octave.{ten_million, fifty_million, second_most, whole_part, octave_good, second_good}
use Rattle.card.specs.OfLoading.Knee.{knee_good, knee_raise, microvolts_of}
use Rattle.card.specs.OfLoading.Numbers.{judged_numbers, parameters_of, mlf, octave, level, level504, vlr, product, spares_good}
use Rattle.card.specs.OfLoading.Numbers.{settings_good, icss_below, within_reach}
use Rattle.card.specs.Judge.{card_of, judge_numbers, judge_of}
use Rattle.card.specs.inner.Worked.{Each, second_least, IsWorked}
use Rattle.card.specs.OfLoading.inner.Mlf.{GoodMlf}
use Rattle.card_laws.specs.laws.Tells.{judge_order}
use Rattle.card.proofs.OfLoading.Whole.{positive_of, whole_least}
use Rattle.card.proofs.OfLoading.Range.{holds, octave_least_lem, octave_most_lem}
use Rattle.card.proofs.OfLoading.Clipped.{and_true, good_mlf}
use Rattle.card.proofs.OfLoading.Product.{product_least, product_above, mlf_positive}
use Rattle.card.proofs.OfLoading.Microvolts.{knee_most_lem, knee_back}

-- ---- what holds of every finite f64 holds of the fifteen
zero_fits : T (fits binary64 zero)
unfolding of_bits fits
zero_fits = tt

lead_fits : (mult r : Float) → T (fits binary64 (conductance_of mult r))
lead_fits mult r = cond-fits binary64 (eq r zero) _ _ zero_fits (div-fits binary64 mult (mul binary64 r million))

leads_fit : (p : Parameters) → Each (λ v. T (fits binary64 v)) (leads_of (worked_of p))
leads_fit p =
    let lead = lead_fits p.mult in
    (lead p.re, (lead p.rbc, (lead p.rcc, (lead p.rcblx, (lead p.rcbli, tt)))))

module _ (P : Float → Type 0) (h : (x : Float) → T (fits binary64 x) → T (finite x) → P x) where
  each_finite : (l : List Float) → Each (λ v. T (fits binary64 v)) l → all finite l ≡ true → Each P l
  each_finite [] f e = tt
  each_finite (x ∷ l) f e =
      let a = and_true (finite x) (all finite l) e in (h x f.0 (holds a.0), each_finite l f.1 a.1)

  each_worked : (p : Parameters) → all finite (values_of (worked_of p)) ≡ true → Each P (values_of (worked_of p))
  each_worked p =
      let mul = mul-fits binary64 in
      let div = div-fits binary64 in
      each_finite (values_of (worked_of p)) (
        mul _ _,
        (div _ _, (div _ _, (mul _ _, (div _ _, (mul _ _, (mul _ _, (div _ _, (div _ _, (mul _ _, leads_fit p))))))))),
      )

-- ---- the second octave
million_or_more : (y : Float) → T (positive y) → T (le (fin false 15625 (pos 6)) y) → second_least ≤ whole_part y
million_or_more y p l =
    let h = le→cross (fin false 15625 (pos 6)) y tt p l in whole_least y p second_least (omega arith) (omega arith)

card_is_worked : (x : List Float) → GoodMlf x → octave_good (octave x) ≡ true → within_reach x ≡ true
    → IsWorked (card_of x)
card_is_worked x g o r =
    let reach = and_true (second_good (product x)) _ r in
    let near = and_true (knee_good (vlr x)) _ reach.1 in
    let second = and_true (finite (product x)) _ reach.0 in
    let low = and_true (le ten_million (octave x)) _ o in
    let high = and_true (le (octave x) fifty_million) _ low.1 in
    let m = mlf_positive x g in
    let above = product_above (mlf x) (octave x) m g.least o in
    let y = positive_of (product x) above (holds second.0) in record {
      splits = each_worked (λ v. IsSplit (split_of v)) is_split (parameters_of x) near.1;
      octave_least_lem = octave_least_lem (octave x) low.0 high.0;
      octave_most_lem = octave_most_lem (octave x) low.0 high.0;
      second_least_lem = million_or_more (product x) y (product_least (mlf x) (octave x) m g.least o);
      second_most_lem = leb-true (whole_part (product x)) second_most second.1;
      knee_most_lem = knee_most_lem (vlr x) near.0;
    }

-- ---- the tests that a card has passed
pub record Passes (s : List ℕ) (c : WorkedCard) : Type 0 where
  pub finite : finite_up s (width_of s) ≡ true
  pub icss : icss_below (judged_numbers s) ≡ false
  pub octave : octave_good (octave (judged_numbers s)) ≡ true
  pub reach : within_reach (judged_numbers s) ≡ true
  pub card : c ≡ card_of (judged_numbers s)

pub passes : (s : List ℕ) (c : WorkedCard) → judge_of s ≡ yes c → Passes s c
passes s c e =
    let x = judged_numbers s in
    let numbers = judge_numbers (spares_good s) x in
    let settings = settings_good (spares_good s) x in
    let at10 : Verdict WorkedCard = refuse_if (not (within_reach x)) OutOfReach (yes (card_of x)) in
    let at9 : Verdict WorkedCard = refuse_if (not (octave_good (octave x))) BadOctave at10 in
    let at19 : Verdict WorkedCard = refuse_if (icss_below x) NegativeIcss at9 in
    let at8 : Verdict WorkedCard = refuse_if (not settings) BadExsub at19 in
    let at6 : Verdict WorkedCard = refuse_if (not (finite_up s (width_of s))) NotFinite numbers in
    let one = passes_if (not (right_length s)) Malformed at6 c (sym (judge_order s) ∙ e) in
    let six = passes_if (not (finite_up s (width_of s))) NotFinite numbers c one.1 in
    let seven = passes_if (not (eq (level x) level504)) WrongLevel at8 c six.1 in
    let eight = passes_if (not settings) BadExsub at19 c seven.1 in
    let nineteen = passes_if (icss_below x) NegativeIcss at9 c eight.1 in
    let nine = passes_if (not (octave_good (octave x))) BadOctave at10 c nineteen.1 in
    let ten = passes_if (not (within_reach x)) OutOfReach (yes (card_of x)) c nine.1 in
    let same : yes (card_of x) ≡ yes c = ten.1 in record {
      finite = not-false (finite_up s (width_of s)) six.0;
      icss = nineteen.0;
      octave = not-false (octave_good (octave x)) nine.0;
      reach = not-false (within_reach x) ten.0;
      card = cc;
    }

pub judged_is_worked : (s : List ℕ) (c : WorkedCard) → judge_of s ≡ yes c → IsWorked c
judged_is_worked s c e =
    let p = passes s c e in
    let g = good_mlf s (is_wide s) p.finite in
    subst IsWorked (sym p.card) (card_is_worked (judged_numbers s) g p.octave p.reach)

-- V_Lr is near, and the values are finite
reached : (x : List Float) → within_reach x ≡ true
    → (knee_good (vlr x) ≡ true) × (all finite (values_of (worked_of (parameters_of x))) ≡ true)
reached x r = and_true (knee_good (vlr x)) _ (and_true (second_good (product x)) _ r).1

-- the power that a caller reads off a card's split is the paper's b
pub judged_powers : (s : List ℕ) (c : WorkedCard) → judge_of s ≡ yes c
    → Each (λ v. sub_ℕ split_bias (split_of v).down ≡ split_b v) (values_of (worked_of (parameters_of (judged_numbers s))))
judged_powers s c e =
    let x = judged_numbers s in
    each_worked (λ v. sub_ℕ split_bias (split_of v).down ≡ split_b v) power_kept (parameters_of x)
    (reached x (passes s c e).reach).1

-- and the voltage that he reads off its V_Lr is the whole microvolts
pub judged_knee : (s : List ℕ) (c : WorkedCard) → judge_of s ≡ yes c
    → sub_ℕ c.knee knee_raise ≡ microvolts_of (vlr (judged_numbers s))
judged_knee s c e =
    let x = judged_numbers s in
    let p = passes s c e in
    ap (λ (k : WorkedCard). sub_ℕ k.knee knee_raise) p.card ∙ knee_back (vlr x) (reached x p.reach).0
