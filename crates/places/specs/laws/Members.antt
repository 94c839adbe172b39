-- Sets of places: which places are in one, how large its number is, what joins and parts two, and that the next place
-- of a set is one.
use Rattle.std.specs.Prelude.{◌≡◌, refl, Bool, not, ◌&&◌, ◌||◌, eqb, ltb}
use Rattle.std.proofs.Common.{sym, ap, ◌∙◌, zero-add, mod-lt, pow_pos, pow-add, shr_lt, eqb-true, ltb-true, ltb-false}
use Rattle.std.proofs.Math.Bool.{true, false, cond}
use Prim.Native.Nat.{ℕ, zero, suc, ◌+◌, ◌-◌, ◌*◌, ◌/◌, ◌%◌, ◌^◌, ◌<◌}
use Rattle.std.proofs.Math.Nat.{pow-suc, add-mul-div_right, add-mul-mod_self_right, div-eq_of_lt, zero-div}
use native.Mathlib.Omega.{arith}
use Rattle.std.specs.Int.Bits.{bit_or, bit_xor}
use Rattle.std.proofs.lemmas.Nat.{or_shr, or_mod, xor_shr, xor_mod}
use Rattle.std.proofs.Math.Pow.{pow-lt, split, field, mod-mod-pow}
use Rattle.std.proofs.Math.Arith.{digits_div}
use Rattle.std.proofs.lemmas.Bool.{eqb-false}
use Rattle.places.specs.Counts.{transistors_most}
use Rattle.places.specs.Sets.{member, set_of, with_place, without_place}
use Rattle.places.specs.inner.Parts.{NextIn}

module _ (p : ℕ → Bool) where
  pub set_below : (k : ℕ) → set_of p k < 2 ^ k
  unfolding set_of
  set_below zero = omega arith
  set_below (suc k) = rw pow-suc (go (p k) (set_below k))
    where
      go : (t : Bool) → set_of p k < 2 ^ k → set_of p k + cond t (2 ^ k) 0 < 2 ^ k * 2
      go true h = omega arith
      go false h = omega arith

-- a digit below those that are added stays
lower : (s i k : ℕ) → i < k → (s + 2 ^ k) / 2 ^ i % 2 ≡ s / 2 ^ i % 2
lower s i k h =
    let e : k ≡ suc (k - suc i) + i = omega arith in
    ap (λ (x : ℕ). (s + x) / 2 ^ i % 2)
    (ap (λ (x : ℕ). 2 ^ x) e ∙ pow-add 2 (suc (k - suc i)) i ∙ ap (λ (x : ℕ). x * 2 ^ i) (pow-suc 2 (k - suc i)))
    ∙ ap (λ (x : ℕ). x % 2) (add-mul-div_right s (2 ^ (k - suc i) * 2) (pow_pos i))
    ∙ add-mul-mod_self_right (s / 2 ^ i) (2 ^ (k - suc i)) 2

-- the digit that is added
top : (s k : ℕ) (t : Bool) → s < 2 ^ k → member (s + cond t (2 ^ k) 0) k ≡ t
top s k true h =
    let e : s + 2 ^ k ≡ 1 * 2 ^ k + s = omega arith in
    let d : (1 * 2 ^ k + s) / 2 ^ k ≡ 1 = digits_div 1 h in rw (e, d)
top s k false h =
    let e : s + 0 ≡ s = omega arith in
    let d : s / 2 ^ k ≡ 0 = div-eq_of_lt h in rw (e, d)

-- the places in the set are those that pass the test
pub member_set : (p : ℕ → Bool) (k i : ℕ) → i < k → member (set_of p k) i ≡ p i
unfolding set_of
member_set p zero i h = absurd (omega arith)
member_set p (suc k) i h = go (p k) refl (eqb i k) refl (member_set p k i)
  where
    go : (t : Bool) → p k ≡ t → (u : Bool) → eqb i k ≡ u → (i < k → member (set_of p k) i ≡ p i) →
        member (set_of p k + cond t (2 ^ k) 0) i ≡ p i
    go t e true q before =
        let o = eqb-true i k q in rw o (top (set_of p k) k t (set_below p k) ∙ sym e)
    go true e false q before =
        let o = eqb-false i k q in
        let l : i < k = omega arith in
        ap (λ (x : ℕ). eqb x 1) (lower (set_of p k) i k l) ∙ before l
    go false e false q before =
        let o = eqb-false i k q in
        let z : set_of p k + 0 ≡ set_of p k = omega arith in rw z (before (omega arith))

-- tests that agree below k
pub set_same : (p q : ℕ → Bool) (k : ℕ) → ((i : ℕ) → i < k → p i ≡ q i) → set_of p k ≡ set_of q k
unfolding set_of
set_same p q zero h = refl
set_same p q (suc k) h =
    let here = h k (omega arith) in
    let rest = set_same p q k (λ i l. h i (omega arith)) in
    λ j. rest j + cond (here j) (2 ^ k) 0

-- ---- the digits of a number as a set

-- a digit of what is left of a division by 2^k
digit_left : (s i k : ℕ) → i < k → s % 2 ^ k / 2 ^ i % 2 ≡ s / 2 ^ i % 2
digit_left s i k h =
    let e : k ≡ (k - i) + i = omega arith in
    let f : k - i ≡ (k - suc i) + 1 = omega arith in
    ap (λ (x : ℕ). s % 2 ^ x / 2 ^ i % 2) e
    ∙ ap (λ (x : ℕ). x % 2) (field s (k - i) i)
    ∙ ap (λ (x : ℕ). s / 2 ^ i % 2 ^ x % 2) f
    ∙ mod-mod-pow (s / 2 ^ i) (k - suc i) 1

-- every number below 2^k is the set of its own digits
pub set_of_members : (k s : ℕ) → s < 2 ^ k → s ≡ set_of (member s) k
unfolding set_of
set_of_members zero s h = omega arith
set_of_members (suc k) s h =
    go (s / 2 ^ k) refl (let e : suc k ≡ 1 + k = omega arith in shr_lt 1 k (rw e at h))
    (set_of_members k (s % 2 ^ k) (mod-lt s (pow_pos k))
    ∙ set_same (member (s % 2 ^ k)) (member s) k (λ i q. ap (λ (x : ℕ). eqb x 1) (digit_left s i k q)))
  where
    go : (d : ℕ) → s / 2 ^ k ≡ d → d < 2 → s % 2 ^ k ≡ set_of (member s) k →
        s ≡ set_of (member s) k + cond (eqb (d % 2) 1) (2 ^ k) 0
    go zero e q low = let w = rw e at (split s k) in omega arith
    go (suc zero) e q low = let w = rw e at (split s k) in omega arith
    go (suc (suc d)) e q low = absurd (omega arith)

-- one place alone
pub member_one : (i j : ℕ) → member (2 ^ i) j ≡ eqb j i
member_one i j = go (eqb j i) refl (ltb j i) refl
  where
    none : member 0 j ≡ false
    none = ap (λ (x : ℕ). eqb (x % 2) 1) (zero-div (2 ^ j))

    go : (t : Bool) → eqb j i ≡ t → (u : Bool) → ltb j i ≡ u → member (2 ^ i) j ≡ t
    go true e u f = let o = eqb-true j i e in rw o (rw zero-add at (top 0 i true (pow_pos i)))
    go false e true f = ap (λ (x : ℕ). eqb x 1) (rw zero-add at (lower 0 j i (ltb-true j i f))) ∙ none
    go false e false f =
        let o = eqb-false j i e in
        let h = ltb-false j i f in
        ap (λ (x : ℕ). eqb (x % 2) 1) (div-eq_of_lt (pow-lt (let l : i < j = omega arith in l)))

-- in either of two sets, and in one alone of them
pub member_or : (a b i : ℕ) → member (bit_or a b) i ≡ member a i || member b i
member_or a b i =
    ap (λ (x : ℕ). eqb x 1)
    (ap (λ (x : ℕ). x % 2) (or_shr a b i) ∙ or_mod (a / 2 ^ i) (b / 2 ^ i) 1)
    ∙ digit (a / 2 ^ i % 2) (b / 2 ^ i % 2) (mod-lt (a / 2 ^ i) (omega arith)) (mod-lt (b / 2 ^ i) (omega arith))
  where
    digit : (x y : ℕ) → x < 2 → y < 2 → eqb (bit_or x y) 1 ≡ eqb x 1 || eqb y 1
    digit zero zero h k = refl
    digit zero (suc zero) h k = refl
    digit (suc zero) zero h k = refl
    digit (suc zero) (suc zero) h k = refl
    digit (suc (suc x)) y h k = absurd (omega arith)
    digit zero (suc (suc y)) h k = absurd (omega arith)
    digit (suc zero) (suc (suc y)) h k = absurd (omega arith)

pub member_xor : (a b i : ℕ) → member (bit_xor a b) i ≡ cond (member b i) (not (member a i)) (member a i)
member_xor a b i =
    ap (λ (x : ℕ). eqb x 1)
    (ap (λ (x : ℕ). x % 2) (xor_shr a b i) ∙ xor_mod (a / 2 ^ i) (b / 2 ^ i) 1)
    ∙ digit (a / 2 ^ i % 2) (b / 2 ^ i % 2) (mod-lt (a / 2 ^ i) (omega arith)) (mod-lt (b / 2 ^ i) (omega arith))
  where
    digit : (x y : ℕ) → x < 2 → y < 2 → eqb (bit_xor x y) 1 ≡ cond (eqb y 1) (not (eqb x 1)) (eqb x 1)
    digit zero zero h k = refl
    digit zero (suc zero) h k = refl
    digit (suc zero) zero h k = refl
    digit (suc zero) (suc zero) h k = refl
    digit (suc (suc x)) y h k = absurd (omega arith)
    digit zero (suc (suc y)) h k = absurd (omega arith)
    digit (suc zero) (suc (suc y)) h k = absurd (omega arith)

-- ---- one place more, and one less

pub member_with : (s i j : ℕ) → j < transistors_most → member (with_place s i) j ≡ member s j || eqb j i
unfolding with_place
member_with s i j h = member_set (λ (k : ℕ). member s k || eqb k i) transistors_most j h

pub member_without : (s i j : ℕ) → j < transistors_most → member (without_place s i) j ≡ member s j && not (eqb j i)
unfolding without_place
member_without s i j h = member_set (λ (k : ℕ). member s k && not (eqb k i)) transistors_most j h

-- whoever has joined or left does so once
pub with_again : (s i : ℕ) → with_place (with_place s i) i ≡ with_place s i
unfolding with_place
with_again s i =
    set_same _ _ transistors_most
    (λ j h. ap (λ (b : Bool). b || eqb j i) (member_with s i j h) ∙ twice (member s j) (eqb j i))
  where
    twice : (a b : Bool) → (a || b) || b ≡ a || b
    twice true b = refl
    twice false true = refl
    twice false false = refl

pub without_again : (s i : ℕ) → without_place (without_place s i) i ≡ without_place s i
unfolding without_place
without_again s i =
    set_same _ _ transistors_most
    (λ j h. ap (λ (b : Bool). b && not (eqb j i)) (member_without s i j h) ∙ twice (member s j) (not (eqb j i)))
  where
    twice : (a b : Bool) → (a && b) && b ≡ a && b
    twice true true = refl
    twice true false = refl
    twice false b = refl

-- ---- the next place of a set is one

not_between : {set from i j : ℕ} → NextIn set from i → NextIn set from j → i < j → ⊥
not_between {i = i} a b h =
    let m = b.most in
    let t = a.is (omega arith) in
    let f = b.between i (a.later (omega arith)) h in
    let z : ◌≡◌ {A = ℕ} 0 1 = ap (λ (x : Bool). cond x 0 1) (sym t ∙ f) in omega arith

pub unique_next : {set from i j : ℕ} → NextIn set from i → NextIn set from j → i ≡ j
unique_next {set} {from} {i} {j} a b = go (ltb i j) refl (ltb j i) refl
  where
    go : (t : Bool) → ltb i j ≡ t → (u : Bool) → ltb j i ≡ u → i ≡ j
    go true e u f = absurd (not_between a b (ltb-true i j e))
    go false e true f = absurd (not_between b a (ltb-true j i f))
    go false e false f = let x = ltb-false i j e in let y = ltb-false j i f in omega arith

-- where nobody passes the test the set is empty
pub set_empty : (p : ℕ → Bool) (k : ℕ) → ((i : ℕ) → i < k → p i ≡ false) → 0 ≡ set_of p k
unfolding set_of
set_empty p zero h = refl
set_empty p (suc k) h = rw (h k (omega arith)) (let e = set_empty p k (λ i q. h i (omega arith)) in omega arith)
