-- One turn of the clipping loop, over plain values.
use mathlib.Core.Path.{◌≡◌, refl, sym, ap, ap₂, ◌∙◌}
use mathlib.Core.Bool.{Bool, true, false, cond, ◌&&◌}
use mathlib.Core.List.{List, [], ◌∷◌, ◌++◌}
use Prim.Native.Nat.{ℕ, zero, suc, ◌+◌, ◌-◌, ◌*◌, ◌%◌, ◌^◌, ◌≤◌, ◌<◌}
use native.Mathlib.Nat.{pow-suc}
use mir.Val.{bool_byte}
use native.Mathlib.Numerals.{add-one}
use native.Mathlib.Omega.{arith}
use native.Mathlib.Decide.{ℕ_discrete}
use lib.ListN.{length, take, drop, set, replicate, length-set, length-replicate, take-append-drop}
use lib.Seq.{take-suc-set, drop-drop, drop-set-lt}
use lib.Pow.{pow_mono}
use lib.Ieee.{Float, ne}
use lib.Ieee.Scale.{finite}
use Rattle.std.specs.Prelude.{Option, Some, None, Ok}
use Rattle.refusal.specs.Clash.{clash}
use Rattle.bytes_le.specs.Le.{le_at}
use Rattle.float.specs.Word.{real_if, real_of}
use Rattle.clip.specs.declared.limits.Rule.{Rule}
use Rattle.clip.specs.Limits as limits
use Rattle.clip.specs.Limits.{wide, narrow, rule_of, clip_to}
use Rattle.clip.specs.Record.{is_wide, number_at, finite_up}
use Rattle.clip.specs.Clip.{clipped_at, clipped_up, mask_up, Clips}
use Rattle.clip.specs.inner.Width.{IsRecord}
use Rattle.clip.proofs.Taken.{clips_taken}

-- ---- what a word was read as
real_if_lem : (b : Bool) (x y : Float) → real_if b y ≡ Some x → (b ≡ true) × (x ≡ y)
real_if_lem true x y e = (refl, cc)
real_if_lem false x y e = clash cc

nothing_if : (b : Bool) (y : Float) → real_if b y ≡ None → b ≡ false
nothing_if true y e = clash cc
nothing_if false y e = refl

module _ (s : List ℕ) (i w : ℕ) (n : Option Float) (ew : w ≡ le_at 8 s (8 * i)) (en : n ≡ real_of w) where
  read_at : real_if (finite (number_at s i)) (number_at s i) ≡ n
  read_at = ap real_of (sym ew) ∙ sym en

  pub is_real : (x : Float) → n ≡ Some x → (finite (number_at s i) ≡ true) × (x ≡ number_at s i)
  is_real x e = real_if_lem (finite (number_at s i)) x (number_at s i) (read_at ∙ e)

  pub is_nothing : n ≡ None → finite (number_at s i) ≡ false
  is_nothing e = nothing_if (finite (number_at s i)) (number_at s i) (read_at ∙ e)

pub clipped_is : (s : List ℕ) (i : ℕ) (r : Rule) (x y : Float) → r ≡ rule_of i → x ≡ number_at s i → y ≡ clip_to r x
    → y ≡ clipped_at s i
unfolding clipped_at
clipped_is s i r x y er ex ey = ey ∙ ap₂ clip_to er ex

-- ---- the recursions, one further
finite_none : (s : List ℕ) → finite_up s 0 ≡ true
unfolding finite_up
finite_none s = refl

finite_more : (s : List ℕ) (i : ℕ) → finite_up s (suc i) ≡ finite_up s i && finite (number_at s i)
unfolding finite_up
finite_more s i = refl

numbers_none : (s : List ℕ) → clipped_up s 0 ≡ []
unfolding clipped_up
numbers_none s = refl

numbers_more : (s : List ℕ) (i : ℕ) → clipped_up s (suc i) ≡ clipped_up s i ++ (clipped_at s i ∷ [])
unfolding clipped_up
numbers_more s i = refl

mask_none : (s : List ℕ) → mask_up s 0 ≡ 0
unfolding mask_up
mask_none s = refl

mask_more : (s : List ℕ) (i : ℕ) → mask_up s (suc i) ≡ mask_up s i + cond (ne (number_at s i) (clipped_at s i)) (2 ^ i) 0
unfolding mask_up
mask_more s i = refl

and_false : (b : Bool) → b && false ≡ false
and_false true = refl
and_false false = refl

-- one number that is not finite is enough
pub not_finite : (s : List ℕ) (n i : ℕ) → i < n → finite (number_at s i) ≡ false → finite_up s n ≡ false
not_finite s zero i h e = absurd (omega arith)
not_finite s (suc n) i h e = of (ℕ_discrete i n) (λ l. not_finite s n i l e)
  where
    of : Dec (i ≡ n) → (i < n → finite_up s n ≡ false) → finite_up s (suc n) ≡ false
    of (yes d) g =
        finite_more s n ∙ ap (λ (b : Bool). finite_up s n && b) (ap (λ (k : ℕ). finite (number_at s k)) (sym d) ∙ e)
        ∙ and_false (finite_up s n)
    of (no d) g = finite_more s n ∙ ap (λ (b : Bool). b && finite (number_at s n)) (g (omega arith))

-- ---- no record has more words than the widest
at_most_wide : {s : List ℕ} {n : ℕ} → IsRecord s n → n ≤ wide
at_most_wide {s} {n} p = rw p.width at (of (is_wide s))
  where
    of : (b : Bool) → cond b wide narrow ≤ wide
    of true = omega arith
    of false = omega arith

-- ---- the loop's invariant, over a record of n words
pub record Passed (n : ℕ) (s : List ℕ) (numbers : List Float) (mask i : ℕ) : Type 0 where
  pub few : i ≤ n
  pub most : n ≤ wide
  pub long : length numbers ≡ wide
  pub good : finite_up s i ≡ true
  pub done : take i numbers ≡ clipped_up s i
  pub left : drop i numbers ≡ replicate (wide - i) limits.zero
  pub bits : mask ≡ mask_up s i
  pub under : mask < 2 ^ i

pub start : {n : ℕ} {s : List ℕ} → IsRecord s n → Passed n s (replicate wide limits.zero) 0 0
start {n} {s} p = record {
  few = omega arith;
  most = at_most_wide p;
  long = length-replicate wide limits.zero;
  good = finite_none s;
  done = sym (numbers_none s);
  left = refl;
  bits = sym (mask_none s);
  under = omega arith;
}

cond_le : (b : Bool) (n : ℕ) → cond b n 0 ≤ n
cond_le true n = omega arith
cond_le false n = omega arith

-- the bit of a turn, in 32 bits
pub marked : {n : ℕ} {s : List ℕ} {l : List Float} {mask i : ℕ} → Passed n s l mask i → i < n → (b : Bool)
    → bool_byte b * 2 ^ i % 2 ^ 32 ≡ cond b (2 ^ i) 0
marked {i = i} p h true =
    let k : i ≤ 23 = omega (arith, p.most) in
    let l : 2 ^ i ≤ 2 ^ 23 = pow_mono k in
    omega arith
marked {i = i} p h false = omega arith

-- what a turn reads, clips and marks
pub record Turned (s : List ℕ) (i : ℕ) (x y : Float) (w : ℕ) : Type 0 where
  pub good : finite (number_at s i) ≡ true
  pub number : x ≡ number_at s i
  pub clipped : y ≡ clipped_at s i
  pub weight : w ≡ cond (ne x y) (2 ^ i) 0

module _ {n : ℕ} {s : List ℕ} {l : List Float} {mask i : ℕ} (p : Passed n s l mask i) (h : i < n) where
  further : (y : Float) → y ≡ clipped_at s i → take (suc i) (set l i y) ≡ clipped_up s (suc i)
  further y e =
      take-suc-set l i y (omega (arith, p.long))
      ∙ ap₂ (λ (k : List Float) (v : Float). k ++ (v ∷ [])) p.done e
      ∙ sym (numbers_more s i)

  less : (y : Float) → drop (suc i) (set l i y) ≡ replicate (wide - suc i) limits.zero
  less y =
      let k : wide - i ≡ suc (wide - suc i) = omega arith in
      let e : drop i l ≡ replicate (suc (wide - suc i)) limits.zero = rw k at p.left in
      drop-set-lt (suc i) l i y (omega arith) ∙ rw (← (add-one i)) (sym (drop-drop 1 i l)) ∙ ap (drop 1) e

  module _ {x y : Float} {w : ℕ} (t : Turned s i x y w) where
    more : Passed n s (set l i y) (mask + w) (suc i)
    more = record {
      few = omega arith;
      most = p.most;
      long = length-set l i y ∙ p.long;
      good = finite_more s i ∙ ap₂ ◌&&◌ p.good t.good;
      done = further y t.clipped;
      left = less y;
      bits = ap₂ ◌+◌ p.bits (t.weight ∙ cc (t.number, t.clipped)) ∙ sym (mask_more s i);
      under = omega (arith, t.weight, cond_le (ne x y) (2 ^ i), p.under, pow-suc 2 i);
    }

    pub turn : Passed n s (set l i y) (mask + w) (i + 1)
    turn = rw add-one more

-- ---- after the loop
pub finished : {n : ℕ} {s : List ℕ} {numbers : List Float} {mask i : ℕ} → IsRecord s n
    → Passed n s numbers mask i → n ≤ i → Clips s (Ok (record { numbers = numbers; mask = mask }))
finished {n} {s} {numbers} {mask} {i} r p h =
    let e : i ≡ n = omega (arith, p.few) in
    let q : Passed n s numbers mask n = rw e at p in
    clips_taken r q.good (sym (take-append-drop n numbers) ∙ ap₂ ◌++◌ q.done q.left) q.bits
