-- Digits and powers of ten are f64s without rounding, so that one product or quotient of them is rounded once.
use mathlib.Core.Path.{◌≡◌, refl, sym, ap, ap₂, ◌∙◌, subst}
use mathlib.Core.Bool.{Bool, true, false, not, cond, true≢false}
use Prim.Native.Nat.{ℕ, zero, suc, ◌+◌, ◌-◌, ◌*◌, ◌%◌, ◌^◌, ◌≤◌, ◌<◌}
use native.Mathlib.Nat.{le_trans, le_of_lt, lt_irrefl, mul_comm, mul_assoc, mul_left_comm, mul-one, mul-pos, one-le-pow}
use native.Mathlib.Nat.{zero-lt-suc}
use native.Mathlib.Omega.{arith}
use lib.Dec.{T, ltb, eqb, eqb→eq, lit<, lit≤}
use borrow.Author.Tests.{le-ltb, lt-ltb}
use lib.IntN.{pos}
use lib.ListN.{get_or}
use lib.Pow.{pow-add}
use lib.Ieee.{Float, nan, inf, fin, binary64, up, down, round, mul, div, of_int, of_bits, is_nan, nan_bits, units}
use lib.Ieee.{odd}
use lib.Ieee.Fits.{down_pos}
use lib.Ieee.Exact.{HasValue}
use lib.Ieee.Back.{round_whole}
use lib.Ieee.Bits.{cond_no, nan_bits_above}
use lib.Ieee.Scale.{round_same}
use lib.Ieee.Order.{kept, drop}
use lib.Ieee.Positive.{first_pos}
use Rattle.whole.specs.laws.Every.{at_each}
use Rattle.whole.specs.laws.Biased.{below_or_not}
use mathlib.Core.Logic.{◌⊎◌, inl, inr}
use Rattle.decimal.specs.Decimal.{digits_end, powers_end, sign_weight, powers_of_ten, rounded_of, times_power}

-- ---- products and quotients of whole numbers, the first of which may be zero

pub mul_values : (x y : Float) (a b : ℕ) → HasValue x false a 1 → HasValue y false b 1
    → mul binary64 x y ≡ round binary64 false (a * b) 1
unfolding mul
mul_values nan y a b h k = absurd h
mul_values (inf s) y a b h k = absurd h
mul_values (fin true m e) y a b h k = absurd (true≢false h.0)
mul_values (fin false m e) nan a b h k = absurd k
mul_values (fin false m e) (inf t) a b h k = absurd k
mul_values (fin false m e) (fin true n d) a b h k = absurd (true≢false k.0)
mul_values (fin false m e) (fin false n d) a b h k =
    round_same binary64 false (m * up e * (n * up d)) (down e * down d) (a * b) 1 (mul-pos (down_pos e) (down_pos d))
    (lit< tt)
    (let x : m * up e ≡ a * down e = sym (mul-one (m * up e)) ∙ h.1 in
    let y : n * up d ≡ b * down d = sym (mul-one (n * up d)) ∙ k.1 in
    mul-one (m * up e * (n * up d)) ∙ ap₂ (λ (p q : ℕ). p * q) x y ∙ simp (mul_assoc, mul_left_comm))

not_zero : (n : ℕ) → 0 < n → T (not (eqb n 0))
not_zero zero h = absurd (lt_irrefl 0 h)
not_zero (suc n) h = go (eqb (suc n) 0) (eqb→eq (suc n) 0)
  where
    go : (b : Bool) → (T b → suc n ≡ 0) → T (not b)
    go true f = let z = f tt in absurd (omega arith)
    go false f = tt

turned : (a e d b : ℕ) → a * e * d * b ≡ a * (b * d * e)
turned a e d b = simp (mul_assoc, mul_comm, mul_left_comm)

pub div_values : (x y : Float) (a b : ℕ) → 0 < b → HasValue x false a 1 → HasValue y false b 1
    → div binary64 x y ≡ round binary64 false a b
unfolding div
div_values nan y a b B h k = absurd h
div_values (inf s) y a b B h k = absurd h
div_values (fin true m e) y a b B h k = absurd (true≢false h.0)
div_values (fin false m e) nan a b B h k = absurd k
div_values (fin false m e) (inf t) a b B h k = absurd k
div_values (fin false m e) (fin true n d) a b B h k = absurd (true≢false k.0)
div_values (fin false m e) (fin false n d) a b B h k =
    let x : m * up e ≡ a * down e = sym (mul-one (m * up e)) ∙ h.1 in
    let y : n * up d ≡ b * down d = sym (mul-one (n * up d)) ∙ k.1 in
    let p : 0 < n * up d = subst (λ (z : ℕ). 0 < z) (sym y) (mul-pos B (down_pos d)) in
    cond_no (eqb n 0) (cond (eqb m 0) nan (inf false)) (round binary64 false (m * up e * down d) (n * up d * down e))
    (not_zero n (first_pos n (up d) p))
    ∙ round_same binary64 false (m * up e * down d) (n * up d * down e) a b (mul-pos p (down_pos e)) B
    (ap (λ (z : ℕ). z * down d * b) x ∙ turned a (down e) (down d) b ∙ ap (λ (z : ℕ). a * (z * down e)) (sym y))

-- ---- both operands

pub whole_value : (d : ℕ) → d < digits_end → HasValue (of_int binary64 (pos d)) false d 1
unfolding of_int
whole_value d h = round_whole binary64 false d (le_trans (le_of_lt h) (lit≤ tt))

abbrev is_ten : ℕ → Float → Bool
is_ten i nan = false
is_ten i (inf s) = false
is_ten i (fin true m e) = false
is_ten i (fin false m e) = eqb (m * up e * 1) (10 ^ i * down e)

ten_is : (i : ℕ) (x : Float) → T (is_ten i x) → HasValue x false (10 ^ i) 1
ten_is i nan t = absurd t
ten_is i (inf s) t = absurd t
ten_is i (fin true m e) t = absurd t
ten_is i (fin false m e) t = (refl, eqb→eq (m * up e * 1) (10 ^ i * down e) t)

ten_value : (i : ℕ) → i < 23 → HasValue (get_or powers_of_ten i nan) false (10 ^ i) 1
unfolding powers_of_ten of_bits
ten_value i h = ten_is i (get_or powers_of_ten i nan) (at_each (λ k. is_ten k (get_or powers_of_ten k nan)) 23 tt i h)

pub ten_pos : (i : ℕ) → 0 < 10 ^ i
ten_pos i = one-le-pow i 10 (zero-lt-suc 9)

-- ---- a power below zero divides, any other multiplies: the same fraction

pub under_is : (d q : ℕ) (x y : Float) → q < 22 → HasValue x false d 1 → HasValue y false (10 ^ (22 - q)) 1
    → div binary64 x y ≡ rounded_of d q
unfolding rounded_of
under_is d q x y l h k =
    div_values x y d (10 ^ (22 - q)) (ten_pos (22 - q)) h k
    ∙ round_same binary64 false d (10 ^ (22 - q)) (d * 10 ^ q) (10 ^ 22) (ten_pos (22 - q)) (ten_pos 22)
    (ap (λ (z : ℕ). d * z) (ap (λ (z : ℕ). 10 ^ z) (apart q l) ∙ pow-add 10 q (22 - q))
    ∙ sym (mul_assoc d (10 ^ q) (10 ^ (22 - q))))
  where
    apart : (q : ℕ) → q < 22 → 22 ≡ q + (22 - q)
    apart q l = omega arith

pub over_is : (d q : ℕ) (x y : Float) → 22 ≤ q → HasValue x false d 1 → HasValue y false (10 ^ (q - 22)) 1
    → mul binary64 x y ≡ rounded_of d q
unfolding rounded_of
over_is d q x y l h k =
    mul_values x y d (10 ^ (q - 22)) h k
    ∙ round_same binary64 false (d * 10 ^ (q - 22)) 1 (d * 10 ^ q) (10 ^ 22) (lit< tt) (ten_pos 22)
    (mul_assoc d (10 ^ (q - 22)) (10 ^ 22) ∙ ap (λ (z : ℕ). d * z) (sym (pow-add 10 (q - 22) 22)
    ∙ ap (λ (z : ℕ). 10 ^ z) (back q l)) ∙ sym (mul-one (d * 10 ^ q)))
  where
    back : (q : ℕ) → 22 ≤ q → q - 22 + 22 ≡ q
    back q l = omega arith

-- digits times a power, as the table's user has it
pub times_is : (d q : ℕ) → d < digits_end → q < powers_end → times_power (of_int binary64 (pos d)) q ≡ rounded_of d q
unfolding times_power
times_is d q h k = split (below_or_not q 22)
  where
    split : (q < 22) ⊎ (22 ≤ q) → times_power (of_int binary64 (pos d)) q ≡ rounded_of d q
    split (inl l) =
        rw (lt-ltb q 22 l)
        (under_is d q (of_int binary64 (pos d)) (get_or powers_of_ten (22 - q) nan) l (whole_value d h)
        (ten_value (22 - q) (omega arith)))
    split (inr g) =
        rw (le-ltb q 22 g)
        (over_is d q (of_int binary64 (pos d)) (get_or powers_of_ten (q - 22) nan) g (whole_value d h)
        (ten_value (q - 22) (omega arith)))

-- ---- what a number's bits and a word's number ask

odd_number : (s : Bool) (q k : ℕ) → T (not (is_nan (odd 54 s q k 1074)))
unfolding odd is_nan
odd_number s zero k = tt
odd_number s (suc q) k = tt

pick_number : (s b : Bool) (x : Float) → T (not (is_nan x)) → T (not (is_nan (cond b x (inf s))))
unfolding is_nan
pick_number s true x h = h
pick_number s false x h = tt

units_number : (s : Bool) (q k : ℕ) → T (not (is_nan (units binary64 s q k)))
unfolding units
units_number s q k = pick_number s (ltb (q * 2 ^ k) (2 ^ 2098)) (odd 54 s q k 1074) (odd_number s q k)

pub round_number : (s : Bool) (a b : ℕ) → T (not (is_nan (round binary64 s a b)))
unfolding round
round_number s a b = units_number s (kept 53 (a * 2 ^ 1074) b) (drop 53 (a * 2 ^ 1074) b)

pub plain_number : (d q : ℕ) → T (not (is_nan (rounded_of d q)))
unfolding rounded_of
plain_number d q = round_number false (d * 10 ^ q) (10 ^ 22)

pub number_bits : (w : ℕ) → w < 9218868437227405312 → T (not (nan_bits binary64 w))
number_bits w h = rw (nan_bits_above binary64 w) (subst (λ (b : Bool). T (not b))
    (sym (le-ltb 9218868437227405312 (w % sign_weight) (omega arith))) tt)
