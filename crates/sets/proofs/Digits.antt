-- Sets of places by their binary digits: one place more, one less, and the next place of a set.
use mathlib.Core.Path.{◌≡◌, refl, sym, ap, ◌∙◌}
use mathlib.Core.Bool.{Bool, true, false, cond, not, ◌&&◌, ◌||◌}
use Prim.Native.Nat.{ℕ, zero, suc, ◌+◌, ◌-◌, ◌*◌, ◌/◌, ◌%◌, ◌^◌, ◌≤◌, ◌<◌}
use native.Mathlib.Nat.{one-mul, div-one, div-eq_of_lt, zero-div, mod-lt, div-add-mod', lt_of_lt_of_le}
use native.Mathlib.Omega.{arith}
use lib.Dec.{eqb, leb}
use lib.Pow.{pow-lt, pow_mono, shr_lt, shl_exact, shr-shr, shr_le}
use lib.Bits.{bit_or, bit_xor, or_lt, xor_lt}
use lib.Count.{under, count_trailing_zeros}
use borrow.Author.Tests.{eq-eqb, ne_eqb, leb-true, leb-false}
use Rattle.stretches.specs.OfPlaces.Counts.{transistors_most}
use Rattle.stretches.specs.OfPlaces.Sets.{member, with_place, without_place}
use Rattle.stretches.specs.OfPlaces.inner.Parts.{NextIn}
use Rattle.stretches.specs.OfPlaces.laws.Members.{set_same, set_of_members, member_one, member_or, member_xor}

-- ---- one place more, and one less

shifted : (i : ℕ) → i < 64 → 1 * 2 ^ i % 2 ^ 64 ≡ 2 ^ i
shifted i h = shl_exact {a = 1} 1 i 64 (omega arith) (omega arith) ∙ one-mul (2 ^ i)

one_lt : (i : ℕ) → i < 64 → 2 ^ i < 2 ^ 64
one_lt i h = pow-lt h

pub with_is : (s i : ℕ) → s < 2 ^ 64 → i < 64 → bit_or s (1 * 2 ^ i % 2 ^ 64) ≡ with_place s i
unfolding with_place
with_is s i l h =
    ap (bit_or s) (shifted i h)
    ∙ set_of_members 64 (bit_or s (2 ^ i)) (or_lt 64 s (2 ^ i) l (one_lt i h))
    ∙ set_same (member (bit_or s (2 ^ i))) (λ (j : ℕ). member s j || eqb j i) transistors_most
    (λ j q. member_or s (2 ^ i) j ∙ ap (λ (b : Bool). member s j || b) (member_one i j))

pub without_is : (s i : ℕ) → s < 2 ^ 64 → i < 64 →
    bit_xor (bit_or s (1 * 2 ^ i % 2 ^ 64)) (1 * 2 ^ i % 2 ^ 64) ≡ without_place s i
unfolding without_place
without_is s i l h =
    ap (λ (x : ℕ). bit_xor (bit_or s x) x) (shifted i h)
    ∙ set_of_members 64 (bit_xor (bit_or s (2 ^ i)) (2 ^ i))
    (xor_lt 64 (bit_or s (2 ^ i)) (2 ^ i) (or_lt 64 s (2 ^ i) l (one_lt i h)) (one_lt i h))
    ∙ set_same (member (bit_xor (bit_or s (2 ^ i)) (2 ^ i))) (λ (j : ℕ). member s j && not (eqb j i)) transistors_most
    (λ j q. member_xor (bit_or s (2 ^ i)) (2 ^ i) j
    ∙ ap (λ (b : Bool). cond (member (2 ^ i) j) (not b) b) (member_or s (2 ^ i) j)
    ∙ ap (λ (b : Bool). cond b (not (member s j || b)) (member s j || b)) (member_one i j)
    ∙ off (member s j) (eqb j i))
  where
    off : (a b : Bool) → cond b (not (a || b)) (a || b) ≡ a && not b
    off true true = refl
    off true false = refl
    off false true = refl
    off false false = refl

-- ---- the zeros below the lowest digit that is set

-- the digits of n from the second on are those of its half
half_digit : (n j : ℕ) → n / 2 ^ suc j % 2 ≡ n / 2 / 2 ^ j % 2
half_digit n j =
    let e : suc j ≡ 1 + j = omega arith in
    ap (λ (x : ℕ). n / 2 ^ x % 2) e ∙ ap (λ (x : ℕ). x % 2) (sym (shr-shr n 1 j))

digit_below : (k n j : ℕ) → j < count_trailing_zeros k n → n / 2 ^ j % 2 ≡ 0
unfolding count_trailing_zeros
digit_below zero n j h = absurd (omega arith)
digit_below (suc k) n j h = go (n % 2) refl j h (digit_below k (n / 2))
  where
    go : (d : ℕ) → n % 2 ≡ d → (i : ℕ) → i < under d (count_trailing_zeros k (n / 2)) →
        ((m : ℕ) → m < count_trailing_zeros k (n / 2) → n / 2 / 2 ^ m % 2 ≡ 0) → n / 2 ^ i % 2 ≡ 0
    go zero e zero l before = ap (λ (x : ℕ). x % 2) (div-one n) ∙ e
    go zero e (suc i) l before = half_digit n i ∙ before i (omega arith)
    go (suc d) e i l before = absurd (omega arith)

half_lt : {n : ℕ} (k : ℕ) → n < 2 ^ suc k → n / 2 < 2 ^ k
half_lt {n} k h = shr_lt k 1 (let e : suc k ≡ k + 1 = omega arith in rw e at h)

digit_at : (k n : ℕ) → 0 < n → n < 2 ^ k → n / 2 ^ count_trailing_zeros k n % 2 ≡ 1
unfolding count_trailing_zeros
digit_at zero n h l = absurd (omega arith)
digit_at (suc k) n h l = go (n % 2) refl (digit_at k (n / 2))
  where
    small : n / 2 < 2 ^ k
    small = half_lt k l

    go : (d : ℕ) → n % 2 ≡ d →
        (0 < n / 2 → n / 2 < 2 ^ k → n / 2 / 2 ^ count_trailing_zeros k (n / 2) % 2 ≡ 1) →
        n / 2 ^ under d (count_trailing_zeros k (n / 2)) % 2 ≡ 1
    go zero e before =
        let whole = div-add-mod' n 2 in half_digit n (count_trailing_zeros k (n / 2)) ∙ before (omega arith) small
    go (suc d) e before =
        let two : n % 2 < 2 = mod-lt n (omega arith) in
        let one : n % 2 ≡ 1 = omega arith in ap (λ (x : ℕ). x % 2) (div-one n) ∙ one

-- ---- the next place of a set

pub next_past : (set from : ℕ) → transistors_most ≤ from → NextIn set from transistors_most
next_past set from h =
    record {
      most = omega arith;
      later = λ l. absurd (omega arith);
      is = λ l. absurd (omega arith);
      between = λ j l m. absurd (omega arith);
    }

-- a place from `from` on, by the digits from there on
on_from : (set from j : ℕ) → from ≤ j → set / 2 ^ j % 2 ≡ set / 2 ^ from / 2 ^ (j - from) % 2
on_from set from j h =
    let e : j ≡ from + (j - from) = omega arith in
    ap (λ (x : ℕ). set / 2 ^ x % 2) e ∙ ap (λ (x : ℕ). x % 2) (sym (shr-shr set from (j - from)))

pub next_none : (set from : ℕ) → set / 2 ^ from ≡ 0 → NextIn set from transistors_most
next_none set from h =
    record {
      most = omega arith;
      later = λ l. absurd (omega arith);
      is = λ l. absurd (omega arith);
      between = λ j l m. ne_eqb _ 1 (not_one j l);
    }
  where
    not_one : (j : ℕ) → from ≤ j → set / 2 ^ j % 2 ≡ 1 → ⊥
    not_one j l e =
        let z : set / 2 ^ from / 2 ^ (j - from) % 2 ≡ 0 = rw h (ap (λ (x : ℕ). x % 2) (zero-div (2 ^ (j - from)))) in
        let o = on_from set from j l in omega arith

pub next_found : (set from : ℕ) → set < 2 ^ 64 → 0 < set / 2 ^ from →
    NextIn set from (from + count_trailing_zeros 64 (set / 2 ^ from))
next_found set from h p =
    record {
      most = go (leb 64 (from + t)) refl;
      later = λ l. omega arith;
      is = λ l. eq-eqb _ 1 one;
      between = λ j l m. ne_eqb _ 1 (not_one j l m);
    }
  where
    t : ℕ
    t = count_trailing_zeros 64 (set / 2 ^ from)

    one : set / 2 ^ (from + t) % 2 ≡ 1
    one =
        ap (λ (x : ℕ). x % 2) (sym (shr-shr set from t))
        ∙ digit_at 64 (set / 2 ^ from) p (let s = shr_le set from in omega arith)

    go : (u : Bool) → leb 64 (from + t) ≡ u → from + t ≤ 64
    go true e =
        let m = pow_mono (leb-true 64 (from + t) e) in
        let z : set / 2 ^ (from + t) ≡ 0 = div-eq_of_lt (lt_of_lt_of_le h m) in
        let o : 0 % 2 ≡ 1 = rw z at one in absurd (omega arith)
    go false e = let l = leb-false 64 (from + t) e in omega arith

    not_one : (j : ℕ) → from ≤ j → j < from + t → set / 2 ^ j % 2 ≡ 1 → ⊥
    not_one j l m e =
        let z = digit_below 64 (set / 2 ^ from) (j - from) (omega arith) in
        let o = on_from set from j l in omega arith
