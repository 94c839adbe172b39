-- A record of version 2 that says no more than one of version 1 is judged alike, and its card is the same but for V_Lr
-- and the series resistors, which version 2 alone has.
use mathlib.Core.Path.{◌≡◌, refl, sym, ap, ap₂, ◌∙◌}
use mathlib.Core.Bool.{Bool, true, false, not, cond, ◌&&◌}
use mathlib.Core.List.{List, [], ◌∷◌}
use Prim.Native.Nat.{ℕ, zero, suc, ◌*◌, ◌≤◌, ◌<◌}
use native.Mathlib.Nat.{mul-pos, zero-mul}
use native.Mathlib.Omega.{arith}
use lib.Dec.{T, ltb→lt}
use native.Mathlib.Decide.{ℕ_discrete}
use lib.ListN.{length, drop_of_length-le}
use lib.Ieee.{Float, nan, inf, fin, binary64, of_bits, neg, mul, lt, le, eq, up, down}
use lib.Ieee.Fits.{up_pos}
use lib.Ieee.Positive.{positive}
use lib.Ieee.Scale.{finite}
use borrow.Author.Tests.{eqb-true, ne_eqb, lt-ltb}
use Rattle.refusal.specs.declared.Refusal.TheVariants.{NotFinite, WrongLevel, BadExsub, NegativeIcss, BadOctave}
use Rattle.refusal.specs.declared.Refusal.TheVariants.{OutOfReach}
use Rattle.refusal.specs.Order as order
use Rattle.refusal.specs.Order.{Verdict, refuse_if}
use Rattle.card.specs.OfWorking.Worked.{Worked}
use Rattle.card.specs.declared.WorkedCard.{WorkedCard}
use Rattle.card.specs.OfClip.Numbers as number
use Rattle.card.specs.OfClip.Limits as limits
use Rattle.card.specs.OfClip.Limits.{milli, wide, narrow, rule_of, clip_to}
use Rattle.card.specs.OfClip.Record.{is_wide, width_of, number_at, finite_up}
use Rattle.card.specs.OfClip.Clip.{clipped_at}
use Rattle.card.specs.OfWorking.Work.{conductance_of, worked_of, leads_of, all, all_finite}
use Rattle.card.specs.OfLoading.Octave.{octave_good, second_good}
use Rattle.card.specs.OfLoading.Knee.{knee_good}
use Rattle.card.specs.OfLoading.Numbers.{numbers_for, judged_numbers, at, has_leads, resistance_of, parameters_of, level, level504}
use Rattle.card.specs.OfLoading.Numbers.{octave, vlr, polarity, spares_good, settings_good, icss_below, within_reach}
use Rattle.card.specs.Judge.{card_of, judge_numbers, judge_of}
use Rattle.card_laws.specs.laws.Tells.{judge_order}
use Rattle.card_laws.specs.laws.Version.{SaysNoMore, with_leads, judged_with_leads}
use Rattle.card.proofs.OfLoading.Range.{holds}
use Rattle.card.proofs.OfLoading.Raise.{raised}
use Rattle.card.proofs.OfLoading.Clipped.{each_finite, each_judged, each_missing}

and_yes : (b : Bool) → b && true ≡ b
and_yes true = refl
and_yes false = refl

-- ---- the tests of clipped numbers and the card behind them, as one function of their outcomes
shape : Bool → Bool → Bool → Bool → Bool → WorkedCard → Verdict WorkedCard
shape a b n c d w =
    refuse_if (not a) WrongLevel
    (refuse_if (not b) BadExsub
    (refuse_if n NegativeIcss (refuse_if (not c) BadOctave (refuse_if (not d) OutOfReach (order.yes w)))))

shaped : (spares : Bool) (x : List Float)
    → judge_numbers spares x
    ≡ shape (eq (level x) level504) (settings_good spares x) (icss_below x) (octave_good (octave x)) (within_reach x)
    (card_of x)
unfolding shape
shaped spares x = refl

shape_at : (v : WorkedCard) (a b n c d : Bool) (w : WorkedCard)
    → shape a b n c d (with_leads v w) ≡ judged_with_leads v (shape a b n c d w)
unfolding shape
shape_at v false b n c d w = refl
shape_at v true false n c d w = refl
shape_at v true true true c d w = refl
shape_at v true true false false d w = refl
shape_at v true true false true false w = refl
shape_at v true true false true true w = refl

refuse_at : (v : WorkedCard) (b : Bool) (j : Verdict WorkedCard)
    → refuse_if b NotFinite (judged_with_leads v j) ≡ judged_with_leads v (refuse_if b NotFinite j)
refuse_at v true j = refl
refuse_at v false j = refl

-- ---- what version 1 means passes
zero_is_near : knee_good limits.zero ≡ true
unfolding of_bits neg le
zero_is_near = refl

-- ---- series resistors
above_zero : (v : Float) → T (positive v) → lt limits.zero v ≡ true
unfolding of_bits lt
above_zero nan p = absurd p
above_zero (inf s) p = absurd p
above_zero (fin true m e) p = absurd p
above_zero (fin false m e) p =
    lt-ltb (0 * down e) (m * up e * 1)
    (let o = mul-pos (ltb→lt 0 m p) (up_pos e) in omega (arith, zero-mul (down e)))

none_of_zero : lt limits.zero limits.zero ≡ false
unfolding of_bits lt
none_of_zero = refl

milli_positive : T (positive milli)
unfolding of_bits
milli_positive = tt

-- version 1 has none of them
no_leads : (s : List ℕ) → has_leads (numbers_for false s) ≡ false
no_leads s = ap (lt limits.zero) (each_missing s 2) ∙ none_of_zero

-- version 2 always has
some_leads : (s : List ℕ) → finite_up s wide ≡ true → has_leads (numbers_for true s) ≡ true
unfolding clipped_at
some_leads s f =
    let r = raised milli (number_at s number.re) milli_positive
    (holds (each_finite s wide number.re (omega arith) f)) in
    ap (lt limits.zero) (each_judged s true number.re (omega arith)) ∙ above_zero _ r.number

pub leads_by_version : (s : List ℕ) → finite_up s (width_of s) ≡ true → has_leads (judged_numbers s) ≡ is_wide s
leads_by_version s = of (is_wide s)
  where
    of : (b : Bool) → finite_up s (cond b wide narrow) ≡ true → has_leads (numbers_for b s) ≡ b
    of true f = some_leads s f
    of false f = no_leads s

-- without any, each conductance is 0
none_through : (mult : Float) → conductance_of mult limits.zero ≡ limits.zero
unfolding of_bits eq
none_through mult = refl

pub none_lead : (x : List Float) (i : ℕ) → has_leads x ≡ false
    → conductance_of (at x number.mult) (resistance_of x i) ≡ limits.zero
none_lead x i e = rw e (none_through (at x number.mult))

zero_finite : finite limits.zero ≡ true
unfolding of_bits
zero_finite = refl

none_finite : (x : List Float) → has_leads x ≡ false → all finite (leads_of (worked_of (parameters_of x))) ≡ true
none_finite x e =
    rw (
      none_lead x number.re e,
      none_lead x number.rbc e,
      none_lead x number.rcc e,
      none_lead x number.rcblx e,
      none_lead x number.rcbli e,
      zero_finite,
    )

-- the ten values that both versions have, and all where the rest are finite
ten_of : Worked → List Float
ten_of w =
    w.sn ∷ w.bulk ∷ w.side ∷ w.nonideal ∷ w.ex ∷ w.sub ∷ w.sf ∷ w.rex ∷ w.rsub ∷ w.reverse ∷ []

of_ten : (w : Worked) → all finite (leads_of w) ≡ true → all_finite w ≡ all finite (ten_of w)
unfolding ten_of
of_ten w e = rw e

module _ {s t : List ℕ} (p : SaysNoMore s t) where
  -- ---- the words that both have
  clipped_same : (i : ℕ) → i < narrow → clipped_at t i ≡ clipped_at s i
  unfolding clipped_at
  clipped_same i h = ap (λ (w : ℕ). clip_to (rule_of i) (of_bits binary64 w)) (p.same i h)

  finite_same : (n : ℕ) → n ≤ narrow → finite_up t n ≡ finite_up s n
  unfolding finite_up
  finite_same zero h = refl
  finite_same (suc n) h =
      ap₂ ◌&&◌ (finite_same n (omega arith)) (ap (λ (w : ℕ). finite (of_bits binary64 w)) (p.same n (omega arith)))

  -- ---- the words that t alone has
  finite_further : (n : ℕ) → narrow ≤ n → n ≤ wide → finite_up t n ≡ finite_up t narrow
  unfolding finite_up
  finite_further zero l h = absurd (omega arith)
  finite_further (suc n) l h = of (ℕ_discrete (suc n) narrow) (λ (k : narrow ≤ n). finite_further n k (omega arith))
    where
      of : Dec (suc n ≡ narrow) → (narrow ≤ n → finite_up t n ≡ finite_up t narrow)
          → finite_up t (suc n) ≡ finite_up t narrow
      of (yes e) g = ap (finite_up t) e
      of (no d) g =
          ap₂ ◌&&◌ (g (omega arith)) (p.numbers n (omega arith) (omega arith)) ∙ and_yes (finite_up t narrow)

  finite_all : finite_up t wide ≡ finite_up s narrow
  finite_all = finite_further wide (omega arith) (omega arith) ∙ finite_same narrow (omega arith)

  abbrev x : List Float
  x = numbers_for false s

  abbrev y : List Float
  y = numbers_for true t

  at_same : (i : ℕ) → i < narrow → at y i ≡ at x i
  at_same i h = each_judged t true i (omega arith) ∙ clipped_same i h ∙ sym (each_judged s false i h)

  own : (i : ℕ) → i < wide → at y i ≡ clipped_at t i
  own i h = each_judged t true i h

  -- the numbers of the ten values that both have
  record Shared : Type 0 where
    pub mult : at y number.mult ≡ at x number.mult
    pub is : at y number.is ≡ at x number.is
    pub ik : at y number.ik ≡ at x number.ik
    pub bf : at y number.bf ≡ at x number.bf
    pub xibi : at y number.xibi ≡ at x number.xibi
    pub ibf : at y number.ibf ≡ at x number.ibf
    pub bri : at y number.bri ≡ at x number.bri
    pub iss : at y number.iss ≡ at x number.iss
    pub icss : at y number.icss ≡ at x number.icss
    pub iks : at y number.iks ≡ at x number.iks
    pub ibr : at y number.ibr ≡ at x number.ibr

  shared : Shared
  shared =
      record {
        mult = at_same number.mult (omega arith);
        is = at_same number.is (omega arith);
        ik = at_same number.ik (omega arith);
        bf = at_same number.bf (omega arith);
        xibi = at_same number.xibi (omega arith);
        ibf = at_same number.ibf (omega arith);
        bri = at_same number.bri (omega arith);
        iss = at_same number.iss (omega arith);
        icss = at_same number.icss (omega arith);
        iks = at_same number.iks (omega arith);
        ibr = own number.ibr (omega arith) ∙ p.ibr ∙ sym (each_missing s 0);
      }

  ten_same : all finite (ten_of (worked_of (parameters_of y))) ≡ all finite (ten_of (worked_of (parameters_of x)))
  unfolding ten_of
  ten_same =
      let e = shared in
      rw (e.mult, e.is, e.ik, e.bf, e.xibi, e.ibf, e.bri, e.iss, e.icss, e.iks, e.ibr)

  values_same : all_finite (worked_of (parameters_of y)) ≡ all_finite (worked_of (parameters_of x))
  values_same =
      of_ten (worked_of (parameters_of y)) (rw p.second at p.leads) ∙ ten_same
      ∙ sym (of_ten (worked_of (parameters_of x)) (none_finite x (no_leads s)))

  -- ---- the tests, and the card
  polarity_same : polarity y ≡ polarity x
  polarity_same = own number.polarity (omega arith) ∙ p.polarity ∙ sym (each_missing s 5)

  settings_same : settings_good true y ≡ settings_good true x
  settings_same =
      let polarity = polarity_same in
      rw (at_same number.exsub (omega arith), polarity)

  near : knee_good (vlr y) ≡ true
  near = ap knee_good (own number.vlr (omega arith)) ∙ p.vlr

  meant_near : knee_good (vlr x) ≡ true
  meant_near = ap knee_good (each_missing s 1) ∙ zero_is_near

  reach_same : within_reach y ≡ within_reach x
  reach_same =
      let mlf = at_same number.mlf (omega arith) in
      let octave = at_same number.octave (omega arith) in
      let second = ap₂ (λ (m o : Float). second_good (mul binary64 m o)) mlf octave in
      ap₂ ◌&&◌ second (ap₂ ◌&&◌ (near ∙ sym meant_near) values_same)

  card_same : card_of y ≡ with_leads (card_of y) (card_of x)
  card_same =
      let e = shared in
      let mlf = at_same number.mlf (omega arith) in
      let octave = at_same number.octave (omega arith) in
      let exsub = at_same number.exsub (omega arith) in
      let rcbli = at_same number.rcbli (omega arith) in
      let rcblx = at_same number.rcblx (omega arith) in
      let polarity = polarity_same in
      rw (
        e.mult,
        e.is,
        e.ik,
        e.bf,
        e.xibi,
        e.ibf,
        e.bri,
        e.iss,
        e.icss,
        e.iks,
        e.ibr,
        mlf,
        octave,
        exsub,
        rcbli,
        rcblx,
        polarity,
      )

  numbers_alike : judge_numbers true y ≡ judged_with_leads (card_of y) (judge_numbers true x)
  numbers_alike =
      let a = ap (λ (f : Float). eq f level504) (at_same number.level (omega arith)) in
      let b = settings_same in
      let n = ap (λ (f : Float). lt f limits.zero) shared.icss in
      let c = ap octave_good (at_same number.octave (omega arith)) in
      let d = reach_same in
      let e = card_same in
      shaped true y ∙ cc (
        shape_at (card_of y) (eq (level x) level504) (settings_good true x) (icss_below x)
            (octave_good (octave x)) (within_reach x) (card_of x),
        shaped true x,
      )

  -- ---- from the bytes
  short : length s ≡ 8 * narrow
  short = eqb-true (length s) (8 * narrow) p.first

  not_wide : is_wide s ≡ false
  not_wide = let h = short in ne_eqb (length s) (8 * wide) (λ e. omega arith)

  no_spares : spares_good s ≡ true
  no_spares =
      let h = short in
      let a = drop_of_length-le s {i = 8 * number.spare} (omega arith) in
      let b = drop_of_length-le s {i = 8 * suc number.spare} (omega arith) in
      rw (a, b)

  judged_first : judge_of s ≡ refuse_if (not (finite_up s narrow)) NotFinite (judge_numbers true x)
  judged_first = judge_order s ∙ rw (not_wide, p.first, no_spares)

  judged_second : judge_of t ≡ refuse_if (not (finite_up t wide)) NotFinite (judge_numbers true y)
  judged_second = judge_order t ∙ rw (p.second, p.spares)

  pub versions_agree : judge_of t ≡ judged_with_leads (card_of (judged_numbers t)) (judge_of s)
  versions_agree =
      let e : judge_of t ≡ judged_with_leads (card_of y) (judge_of s) =
      judged_second
      ∙ ap₂ (λ (b : Bool) (j : Verdict WorkedCard). refuse_if (not b) NotFinite j) finite_all numbers_alike
      ∙ refuse_at (card_of y) (not (finite_up s narrow)) (judge_numbers true x)
      ∙ ap (judged_with_leads (card_of y)) (sym judged_first)
      in
      e ∙ ap (λ (b : Bool). judged_with_leads (card_of (numbers_for b t)) (judge_of s)) (sym p.second)
