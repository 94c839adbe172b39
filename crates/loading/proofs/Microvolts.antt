-- V_Lr in microvolts: what is at most 5 in size is at most 5,000,000 there, and its whole part is what a card keeps.
use mathlib.Core.Path.{◌≡◌, refl, sym, ap, subst, ◌∙◌}
use mathlib.Core.Bool.{Bool, true, false, cond, ◌&&◌, ◌||◌}
use Prim.Native.Nat.{ℕ, zero, suc, ◌+◌, ◌-◌, ◌*◌, ◌/◌, ◌%◌, ◌^◌, ◌≤◌, ◌<◌, min, compare}
use native.Mathlib.Nat.{div-lt_iff_lt-mul}
use native.Mathlib.Omega.{arith}
use lib.Dec.{T, ltb, eqb, lt→ltb}
use lib.IntN.{ℤ, pos, negsuc, neg_ℤ, sub_ℕ}
use lib.Ieee.{Float, nan, inf, fin, Format, binary64, prec, emax, low, size, nearest, odd, units, round, of_bits, up}
use lib.Ieee.{down, neg, mul, lt, le, to_unsigned, to_signed}
use lib.Ieee.Fits.{down_pos}
use lib.Ieee.Order.{round_mono}
use lib.Ieee.Positive.{num, den}
use lib.Ieee.Scale.{finite}
use borrow.Author.Tests.{ltb-true, ltb-false, eqb-true, lt-ltb, le-ltb}
use Rattle.working.specs.OfClip.Limits as limits
use Rattle.working.specs.Work.{million}
use Rattle.loading.specs.Knee.{five, knee_good, microvolts_of, knee_raise, knee_kept, knee_of, knee_most}
use Rattle.loading.specs.laws.Sign.{unsigned}
use Rattle.loading.proofs.Clipped.{and_true}
use Rattle.loading.proofs.Range.{holds}
use Rattle.loading.proofs.Raise.{zero_is}
use Rattle.loading.proofs.Signs.{round_unsigned}

five_is : five ≡ fin false 5 (pos 0)
unfolding of_bits
five_is = refl

million_is : million ≡ fin false 15625 (pos 6)
unfolding of_bits
million_is = refl

most_is : round binary64 false knee_raise 1 ≡ fin false 78125 (pos 6)
unfolding round
most_is = refl

-- ---- a comparison of two sizes
not_above : (a b : ℕ) → T (ltb a b || (eqb a b && true)) → a ≤ b
not_above a b = of (ltb a b) (eqb a b) refl refl
  where
    of : (l e : Bool) → ltb a b ≡ l → eqb a b ≡ e → T (l || (e && true)) → a ≤ b
    of true e p q t = omega (arith, ltb-true a b p)
    of false true p q t = omega (arith, eqb-true a b q)
    of false false p q t = absurd t

-- ---- a rounded fraction with a minus sign is the one without it, turned over
odd_turned : (d q k l : ℕ) → odd d true q k l ≡ neg (odd d false q k l)
unfolding odd neg
odd_turned d zero k l = refl
odd_turned d (suc q) k l = refl

units_turned : (f : Format) (q k : ℕ) → units f true q k ≡ neg (units f false q k)
unfolding units neg
units_turned f q k = of (ltb (q * 2 ^ k) (2 ^ (low f + suc (emax f))))
  where
    of : (b : Bool)
        → cond b (odd (suc (prec f)) true q k (low f)) (inf true)
        ≡ neg (cond b (odd (suc (prec f)) false q k (low f)) (inf false))
    of true = odd_turned (suc (prec f)) q k (low f)
    of false = refl

round_turned : (f : Format) (a b : ℕ) → round f true a b ≡ neg (round f false a b)
unfolding round
round_turned f a b =
    let n = a * 2 ^ low f in
    let k = size (n / b) - prec f in
    let u = b * 2 ^ k in units_turned f (nearest (n / u) (compare (n % u * 2) u)) k

-- ---- finite, and at most 5,000,000 in size
pub record Small (y : Float) : Type 0 where
  pub number : T (finite y)
  pub most : num y ≤ knee_raise * den y

small_plus : (y : Float) → T (unsigned y) → T (le y (fin false 78125 (pos 6))) → Small y
unfolding le
small_plus nan u l = absurd l
small_plus (inf true) u l = absurd u
small_plus (inf false) u l = absurd l
small_plus (fin true m e) u l = absurd u
small_plus (fin false m e) u l =
    let h = not_above (m * up e * 1) (78125 * 2 ^ 6 * down e) l in record { number = tt; most = omega arith }

small_turned : (y : Float) → Small y → Small (neg y)
unfolding neg
small_turned nan p = absurd p.number
small_turned (inf s) p = absurd p.number
small_turned (fin s m e) p = record { number = tt; most = p.most }

round_plus : (a b : ℕ) → 0 < b → a ≤ knee_raise * b → Small (round binary64 false a b)
round_plus a b B h =
    small_plus (round binary64 false a b) (round_unsigned binary64 a b)
    (subst (λ (k : Float). T (le (round binary64 false a b) k)) most_is
    (round_mono binary64 a b knee_raise 1 B (omega arith) (omega arith)))

round_small : (s : Bool) (a b : ℕ) → 0 < b → a ≤ knee_raise * b → Small (round binary64 s a b)
round_small false a b B h = round_plus a b B h
round_small true a b B h =
    subst Small (sym (round_turned binary64 a b)) (small_turned (round binary64 false a b) (round_plus a b B h))

-- ---- V_Lr
times : (v : Float) → T (le v (fin false 5 (pos 0))) → T (le (neg v) (fin false 5 (pos 0)))
    → Small (mul binary64 v (fin false 15625 (pos 6)))
unfolding le neg mul
times nan h k = absurd h
times (inf true) h k = absurd k
times (inf false) h k = absurd h
times (fin false m e) h k =
    let l = not_above (m * up e * 1) (5 * down e) h in
    let d = down_pos e in
    round_small false (m * up e * (15625 * 2 ^ 6)) (down e * 1) (omega arith) (omega arith)
times (fin true m e) h k =
    let l = not_above (m * up e * 1) (5 * down e) k in
    let d = down_pos e in
    round_small true (m * up e * (15625 * 2 ^ 6)) (down e * 1) (omega arith) (omega arith)

under_five : (v : Float) → le v five ≡ true → T (le v (fin false 5 (pos 0)))
under_five v h = subst (λ (k : Float). T (le v k)) five_is (holds h)

pub small : (v : Float) → knee_good v ≡ true → Small (mul binary64 v million)
small v g =
    let p = and_true (le v five) _ g in
    subst (λ (k : Float). Small (mul binary64 v k)) (sym million_is)
    (times v (under_five v p.0) (under_five (neg v) p.1))

-- ---- the whole part, of either sign
part_most : (n d : ℕ) → 0 < d → n ≤ knee_raise * d → n / d ≤ knee_raise
part_most n d h l =
    let q = (div-lt_iff_lt-mul {k = d} {x = n} {y = suc knee_raise} h).1 (omega arith) in omega arith

none_of : (n d : ℕ) → 0 < d → n ≤ 0 → n / d ≡ 0
none_of n d h l = let q = (div-lt_iff_lt-mul {k = d} {x = n} {y = 1} h).1 (omega arith) in omega arith

kept_below : (k : ℕ) → knee_kept (neg_ℤ (pos k)) ≡ knee_raise - k
kept_below zero = refl
kept_below (suc k) = refl

-- of a size alone
module _ (m : ℕ) (e : ℤ) (h : m * up e ≤ knee_raise * down e) where
  part : m * up e / down e ≤ knee_raise
  part = part_most (m * up e) (down e) (down_pos e) h

  size_over_lem : T (lt (fin true 1 (pos 0)) (fin false m e))
  unfolding lt
  size_over_lem = let d = down_pos e in lt→ltb 0 (1 * down e + m * up e * 1) (omega arith)

  size_under : T (lt (fin false m e) (fin false 1 (pos 64)))
  unfolding lt
  size_under = let d = down_pos e in lt→ltb (m * up e * 1) (2 ^ 64 * down e) (omega arith)

  size_cut : to_unsigned 64 (fin false m e) ≡ m * up e / down e
  unfolding to_unsigned
  size_cut = let q = part in omega arith

-- a number below zero: what is cut of its size is taken off
pub record Under (y : Float) : Type 0 where
  pub over : T (lt (fin true 1 (pos 0)) (neg y))
  pub under : T (lt (neg y) (fin false 1 (pos 64)))
  pub most : to_unsigned 64 (neg y) ≤ knee_raise
  pub kept : knee_raise - to_unsigned 64 (neg y) ≡ knee_kept (to_signed 63 y)

below_zero_lem : (y : Float) → Small y → lt y (fin false 0 (pos 0)) ≡ true → Under y
unfolding lt neg to_signed
below_zero_lem nan p h = absurd p.number
below_zero_lem (inf s) p h = absurd p.number
below_zero_lem (fin false m e) p h = let l = ltb-true (m * up e * 1) (0 * down e) h in absurd (omega arith)
below_zero_lem (fin true m e) p h =
    let q = part m e p.most in
    let cut = size_cut m e p.most in
    let c : to_unsigned 64 (fin false m e) ≡ min (m * up e / down e) (2 ^ 63) = omega arith in
    record {
      over = size_over_lem m e p.most;
      under = size_under m e p.most;
      most = omega arith;
      kept = ap (λ (k : ℕ). knee_raise - k) c ∙ sym (kept_below (min (m * up e / down e) (2 ^ 63)));
    }

-- any other: what is cut is put on
pub record Over (y : Float) : Type 0 where
  pub over : T (lt (fin true 1 (pos 0)) y)
  pub under : T (lt y (fin false 1 (pos 64)))
  pub most : to_unsigned 64 y ≤ knee_raise
  pub kept : knee_raise + to_unsigned 64 y ≡ knee_kept (to_signed 63 y)

from_zero : (y : Float) → Small y → lt y (fin false 0 (pos 0)) ≡ false → Over y
unfolding lt to_unsigned to_signed
from_zero nan p h = absurd p.number
from_zero (inf s) p h = absurd p.number
from_zero (fin false m e) p h =
    let q = part m e p.most in
    record {
      over = size_over_lem m e p.most;
      under = size_under m e p.most;
      most = omega arith;
      kept = omega arith;
    }
from_zero (fin true m e) p h =
    let l = ltb-false 0 (m * up e * 1 + 0 * down e) h in
    let d = down_pos e in
    let q = none_of (m * up e) (down e) d (omega arith) in
    record {
      over = lt→ltb (m * up e * 1) (1 * down e) (omega arith);
      under = lt→ltb 0 (m * up e * 1 + 2 ^ 64 * down e) (omega arith);
      most = omega arith;
      kept = omega (arith, kept_below (min (m * up e / down e) (2 ^ 63)));
    }

-- ---- what is kept gives the microvolts back
back_above : (n : ℕ) → sub_ℕ (knee_raise + n) knee_raise ≡ pos n
back_above n = rw (le-ltb (knee_raise + n) knee_raise (omega arith)) (ap pos (omega arith))

back_below : (k : ℕ) → k ≤ knee_raise → sub_ℕ (knee_kept (neg_ℤ (pos k))) knee_raise ≡ neg_ℤ (pos k)
back_below zero h = refl
back_below (suc k) h = rw (lt-ltb (knee_raise - suc k) knee_raise (omega arith)) (ap negsuc (omega arith))

back : (y : Float) → Small y → sub_ℕ (knee_kept (to_signed 63 y)) knee_raise ≡ to_signed 63 y
unfolding to_signed
back nan p = absurd p.number
back (inf s) p = absurd p.number
back (fin false m e) p = back_above (min (m * up e / down e) (2 ^ 63 - 1))
back (fin true m e) p =
    let q = part m e p.most in back_below (min (m * up e / down e) (2 ^ 63)) (omega arith)

-- ---- by the test that the code makes
module _ (v : Float) (g : knee_good v ≡ true) where
  abbrev pub y : Float
  y = mul binary64 v million

  pub negative : lt y limits.zero ≡ true → Under y
  negative h = below_zero_lem y (small v g) (subst (λ (k : Float). lt y k ≡ true) zero_is h)

  pub positive : lt y limits.zero ≡ false → Over y
  positive h = from_zero y (small v g) (subst (λ (k : Float). lt y k ≡ false) zero_is h)

  -- so no V_Lr is kept as more than twice 5 V
  pub knee_most_lem : knee_of v ≤ knee_most
  knee_most_lem = of (lt y limits.zero) refl
    where
      of : (b : Bool) → lt y limits.zero ≡ b → knee_of v ≤ knee_most
      of true h = let u = negative h in omega arith
      of false h = let u = positive h in omega arith

  pub knee_back : sub_ℕ (knee_of v) knee_raise ≡ microvolts_of v
  knee_back = back y (small v g)
