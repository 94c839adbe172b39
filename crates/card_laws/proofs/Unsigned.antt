-- The fifteen worked values of a card that loading takes have no minus sign.
use mathlib.Core.Path.{◌≡◌, refl, sym, ap, subst, ◌∙◌}
use mathlib.Core.Bool.{Bool, true, false, cond}
use mathlib.Core.List.{List}
use Prim.Native.Nat.{ℕ, ◌<◌}
use native.Mathlib.Omega.{arith}
use lib.Dec.{T}
use lib.Ieee.{Float, binary64, of_bits, lt, eq, mul, sub}
use lib.Ieee.Scale.{finite}
use Rattle.refusal.specs.Order.{yes}
use Rattle.card.specs.OfWorking.Worked.{Worked}
use Rattle.card.specs.declared.WorkedCard.{WorkedCard}
use Rattle.card.specs.OfClip.limits.Rule.{Rule}
use Rattle.card.specs.OfClip.limits.Rule.TheVariants.{Free, AtLeast, Between}
use Rattle.card.specs.OfClip.Numbers as number
use Rattle.card.specs.OfClip.Limits.{wide, narrow, zero, one, pico, tenth_milli, tenth_nano, milli, rule_of, plain_of, clip_to}
use Rattle.card.specs.OfClip.Record.{is_wide, number_at, finite_up}
use Rattle.card.specs.OfClip.Clip.{clipped_at}
use Rattle.card.specs.OfWorking.Work.{four, million, conductance_of, worked_of, values_of}
use Rattle.card.specs.OfLoading.Numbers.{numbers_for, judged_numbers, at, has_leads, resistance_of, parameters_of, icss, icss_below}
use Rattle.card.specs.Judge.{judge_of}
use Rattle.card.specs.inner.Worked.{Each}
use Rattle.card.specs.OfLoading.laws.Sign.{unsigned, Unsigned}
use Rattle.card.proofs.OfLoading.Range.{holds}
use Rattle.card.proofs.OfLoading.Clipped.{each_finite, in_both, each_judged, each_missing}
use Rattle.card_laws.proofs.WorkedCards.{passes}
use Rattle.card.proofs.OfLoading.Signs.{plus, plus_unsigned, zero_plus, kept_plus, least_plus, between_plus, mul_unsigned}
use Rattle.card.proofs.OfLoading.Signs.{cond_unsigned, div_unsigned, sub_unsigned}

-- ---- the limits
limits_plus : T (plus one) × T (plus four) × T (plus pico) × T (plus tenth_milli) × T (plus tenth_nano) ×
    T (plus million)
unfolding of_bits
limits_plus = (tt, tt, tt, tt, tt, tt)

milli_plus : T (plus milli)
unfolding of_bits
milli_plus = tt

-- ---- XI_B1 is not above 1
zero_under : lt one zero ≡ false
unfolding of_bits lt
zero_under = refl

one_under : lt one one ≡ false
unfolding of_bits lt
one_under = refl

either : (v : Float) (b : Bool) → lt one v ≡ false → lt one (cond b zero v) ≡ false
either v true h = zero_under
either v false h = h

under_one : (x : Float) → lt one (clip_to (Between zero one) x) ≡ false
under_one x = of (lt x zero) (lt one x) refl
  where
    plainly : (v : Float) → lt one v ≡ false → lt one (plain_of v) ≡ false
    plainly v h = either v (eq v zero) h

    of : (b c : Bool) → lt one x ≡ c → lt one (plain_of (cond b zero (cond c one x))) ≡ false
    of true c e = plainly zero zero_under
    of false true e = plainly one one_under
    of false false e = plainly x e

-- ---- I_CSs, which is not below zero
free_plus : (x : Float) → T (finite x) → lt (plain_of x) zero ≡ false → T (plus (plain_of x))
free_plus x f h = of (eq x zero) refl h
  where
    of : (b : Bool) → eq x zero ≡ b → lt (cond b zero x) zero ≡ false → T (plus (plain_of x))
    of true e k = subst (λ (b : Bool). T (plus (cond b zero x))) (sym e) zero_plus
    of false e k = kept_plus zero x zero_plus f k

-- ---- a conductance, of a resistance without a minus sign
conductance_unsigned : (mult r : Float) → T (unsigned mult) → T (unsigned r) → T (unsigned (conductance_of mult r))
conductance_unsigned mult r p q =
    cond_unsigned (eq r zero) zero _ (plus_unsigned zero zero_plus)
    (div_unsigned binary64 mult (mul binary64 r million) p
    (mul_unsigned binary64 r million q (plus_unsigned million limits_plus.5)))

module _ (s : List ℕ) (b : Bool) (f : finite_up s (cond b wide narrow) ≡ true) where
  abbrev x : List Float
  x = numbers_for b s

  abbrev w : Worked
  w = worked_of (parameters_of x)

  number_finite : (i : ℕ) → i < cond b wide narrow → T (finite (number_at s i))
  number_finite i h = holds (each_finite s (cond b wide narrow) i h f)

  by_rule : (i : ℕ) (r : Rule) → i < cond b wide narrow → rule_of i ≡ r → at x i ≡ clip_to r (number_at s i)
  unfolding clipped_at
  by_rule i r h e = each_judged s b i h ∙ ap (λ (k : Rule). clip_to k (number_at s i)) e

  from_least : (i : ℕ) (low : Float) → i < cond b wide narrow → rule_of i ≡ AtLeast low → T (plus low)
      → T (plus (at x i))
  from_least i low h e p = rw (by_rule i (AtLeast low) h e) (least_plus low (number_at s i) p (number_finite i h))

  -- one of the first sixteen
  least : (i : ℕ) (low : Float) → i < narrow → rule_of i ≡ AtLeast low → T (plus low) → T (plus (at x i))
  least i low h = from_least i low (in_both b i h)

  above : (i : ℕ) (low : Float) → i < narrow → rule_of i ≡ AtLeast low → T (plus low) → T (unsigned (at x i))
  above i low h e p = plus_unsigned (at x i) (least i low h e p)

  -- a parameter whose least is zero
  from_zero : (i : ℕ) → i < narrow → rule_of i ≡ AtLeast zero → T (unsigned (at x i))
  from_zero i h e = above i zero h e zero_plus

  abbrev xibi : Float
  xibi = at x number.xibi

  xibi_at : xibi ≡ clip_to (Between zero one) (number_at s number.xibi)
  xibi_at = by_rule number.xibi (Between zero one) (in_both b number.xibi (omega arith)) refl

  xibi_plus : T (plus xibi)
  xibi_plus =
      rw xibi_at
      (between_plus zero one (number_at s number.xibi) zero_plus limits_plus.0
      (number_finite number.xibi (in_both b number.xibi (omega arith))))

  left_of_one : T (unsigned (sub binary64 one xibi))
  left_of_one =
      sub_unsigned binary64 one xibi limits_plus.0 xibi_plus (rw xibi_at (under_one (number_at s number.xibi)))

  icss_plus : icss_below x ≡ false → T (plus (icss x))
  icss_plus h =
      let l = in_both b number.icss (omega arith) in
      let e = by_rule number.icss Free l refl in
      rw e (free_plus (number_at s number.icss) (number_finite number.icss l) (rw e at h))

  -- a resistor's, where its resistance has no minus sign or counts for nothing
  lead_unsigned : (i : ℕ) → T (unsigned (at x i)) → T (unsigned (conductance_of (at x number.mult) (resistance_of x i)))
  lead_unsigned i p =
      conductance_unsigned (at x number.mult) (resistance_of x i) (from_zero number.mult (omega arith) refl)
      (cond_unsigned (has_leads x) (at x i) zero p (plus_unsigned zero zero_plus))

  -- the words that not every record has, without a minus sign
  record Further : Type 0 where
    pub ibr : T (plus (at x number.ibr))
    pub re : T (plus (at x number.re))
    pub rbc : T (plus (at x number.rbc))
    pub rcc : T (plus (at x number.rcc))

  values_unsigned : icss_below x ≡ false → Further → Each Unsigned (values_of w)
  values_unsigned not_below more =
      let times = mul_unsigned binary64 in
      let over = div_unsigned binary64 in
      let mult = from_zero number.mult (omega arith) refl in
      let is = from_zero number.is (omega arith) refl in
      let iss = from_zero number.iss (omega arith) refl in
      let bf = above number.bf tenth_milli (omega arith) refl limits_plus.3 in
      let sn = times (at x number.is) (at x number.mult) is mult in
      let ss = times (at x number.iss) (at x number.mult) iss mult in
      let fourfold = times four (at x number.is) (plus_unsigned four limits_plus.1) is in
      let bulk = times (sub binary64 one xibi) w.sn left_of_one sn in
      let side = times xibi w.sn (plus_unsigned xibi xibi_plus) sn in
      let nonideal = times (at x number.ibf) (at x number.mult) (from_zero number.ibf (omega arith) refl) mult in
      let bri = above number.bri tenth_nano (omega arith) refl limits_plus.4 in
      let sf = times (icss x) (at x number.mult) (plus_unsigned (icss x) (icss_plus not_below)) mult in
      let ik = above number.ik pico (omega arith) refl limits_plus.2 in
      let iks = above number.iks pico (omega arith) refl limits_plus.2 in
      let bulk-share = over (mul binary64 (sub binary64 one xibi) w.sn) (at x number.bf) bulk bf in
      let side-share = over (mul binary64 xibi w.sn) (at x number.bf) side bf in
      let ex = over w.sn (at x number.bri) sn bri in
      let rex = over (mul binary64 four (at x number.is)) (at x number.ik) fourfold ik in
      let rsub = over (mul binary64 four (at x number.is)) (at x number.iks) fourfold iks in
      let reverse = times (at x number.ibr) (at x number.mult) (plus_unsigned (at x number.ibr) more.ibr) mult in
      let ge = lead_unsigned number.re (plus_unsigned (at x number.re) more.re) in
      let gbc = lead_unsigned number.rbc (plus_unsigned (at x number.rbc) more.rbc) in
      let gcc = lead_unsigned number.rcc (plus_unsigned (at x number.rcc) more.rcc) in
      let gblx = lead_unsigned number.rcblx (from_zero number.rcblx (omega arith) refl) in
      let gbli = lead_unsigned number.rcbli (from_zero number.rcbli (omega arith) refl) in (
        sn,
        (
          bulk-share,
          (side-share, (nonideal, (ex, (ss, (sf, (rex, (rsub, (reverse, (ge, (gbc, (gcc, (gblx, (gbli, tt))))))))))))),
        ),
      )

-- I_Br and three resistances, which a record of version 1 has not
further : (s : List ℕ) (b : Bool) (f : finite_up s (cond b wide narrow) ≡ true) → Further s b f
further s true f =
    record {
      ibr = from_least s true f number.ibr zero (omega arith) refl zero_plus;
      re = from_least s true f number.re milli (omega arith) refl milli_plus;
      rbc = from_least s true f number.rbc milli (omega arith) refl milli_plus;
      rcc = from_least s true f number.rcc milli (omega arith) refl milli_plus;
    }
further s false f =
    record {
      ibr = rw (each_missing s 0) zero_plus;
      re = rw (each_missing s 2) zero_plus;
      rbc = rw (each_missing s 3) zero_plus;
      rcc = rw (each_missing s 4) zero_plus;
    }

pub worked_unsigned : (s : List ℕ) (c : WorkedCard) → judge_of s ≡ yes c
    → Each Unsigned (values_of (worked_of (parameters_of (judged_numbers s))))
worked_unsigned s c e =
    let p = passes s c e in
    values_unsigned s (is_wide s) p.finite p.icss (further s (is_wide s) p.finite)
