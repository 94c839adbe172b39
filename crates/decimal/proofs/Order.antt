-- Words of sizes stand in the order of the sizes: digits that grow never bring the word down, and a higher power always
-- brings it up.
use mathlib.Core.Path.{◌≡◌, sym, ap, ◌∙◌, subst}
use mathlib.Core.Logic.{◌⊎◌, inl, inr}
use mathlib.Core.Bool.{Bool, true, false, cond, ◌&&◌, ◌||◌, true≢false}
use Prim.Native.Nat.{ℕ, suc, ◌+◌, ◌-◌, ◌*◌, ◌/◌, ◌%◌, ◌^◌, ◌≤◌, ◌<◌, compare}
use native.Mathlib.Nat.{le_trans, le_of_eq, le_of_lt, lt_of_lt_of_le, lt_of_le_of_lt, eq-or-lt_of_le, lt_of_not-le}
use native.Mathlib.Nat.{not-le_of_lt, mul_assoc, mul_right_comm, mul-pos, zero-mul, mul-le-mul, mul-le-mul_left}
use native.Mathlib.Nat.{mul-le-mul_right, mul-lt-mul_of_pos_right, le_of_mul-le-mul_right, mul-div_cancel}
use native.Mathlib.Nat.{le-div_iff_mul-le, div-lt_iff_lt-mul, div-div-eq-div-mul, add_assoc, zero-add, pow-le-pow_right}
use native.Mathlib.Nat.{pow-suc, zero-lt-suc}
use native.Mathlib.Omega.{arith}
use lib.Dec.{T, ltb, eqb, ltb→lt, eqb→eq, lit<, lit≤}
use lib.Pow.{pow-add, pow_pos, pow_mono}
use lib.Ieee.{Float, nan, inf, fin, binary64, up, down, size, round, to_bits, le, top}
use lib.Ieee.Fits.{down_pos, kept-lt, nearest-le, and_l}
use lib.Ieee.Digits.{size-lt, size-le, size_reaches}
use lib.Ieee.Exact.{HasValue, units_val}
use lib.Ieee.Nearest.{div_mono, nearest-ge}
use lib.Ieee.Order.{drop, kept, transfer, round_mono}
use lib.Ieee.Positive.{num, den, den_pos, value→cross}
use lib.Ieee.Scale.{grid, overflow, round_same, grid_scale, normal_of_fraction}
use Rattle.decimal.specs.Decimal.{digits_end, sign_weight, rounded_of, size_bits, value_of, word_of}
use Rattle.decimal.proofs.Exact.{ten_pos}

-- ---- the word of g units of 2^-1074: 2^52 for each binary digit that it has above 53, and its leading 53

unfoldable pub packed : ℕ → ℕ
packed g = (size g - 53) * 4503599627370496 + g / 2 ^ (size g - 53)

fewer : (x y p : ℕ) → x ≤ y → x - p ≤ y - p
fewer x y p h = omega arith

size_grows : (a b : ℕ) → a ≤ b → size a ≤ size b
size_grows a b h = size-le a (size b) (lt_of_le_of_lt h (size-lt b))

packed_lt : (g h : ℕ) → size g - 53 < size h - 53 → packed g < packed h
unfolding packed
packed_lt g h l =
    let k = size h - 53 in
    let a : g / 2 ^ (size g - 53) < 2 ^ 53 = kept-lt 53 g in
    let b : 2 ^ 52 * 2 ^ k ≤ h =
    le_trans (le_of_eq (sym (pow-add 2 52 k))) (size_reaches h (52 + k) (room (size h) (size g - 53) l)) in
    let c : 2 ^ 52 ≤ h / 2 ^ k = (le-div_iff_mul-le (pow_pos k)).1 b in
    sums (size g - 53) k (g / 2 ^ (size g - 53)) (h / 2 ^ k) l a c
  where
    room : (z j : ℕ) → j < z - 53 → 52 + (z - 53) < z
    room z j l = omega arith

    sums : (j k x y : ℕ) → j < k → x < 2 ^ 53 → 2 ^ 52 ≤ y → j * 4503599627370496 + x < k * 4503599627370496 + y
    sums j k x y l a c = omega arith

pub packed_le : (g h : ℕ) → g ≤ h → packed g ≤ packed h
unfolding packed
packed_le g h l = go (eq-or-lt_of_le (fewer (size g) (size h) 53 (size_grows g h l)))
  where
    cut : (k : ℕ) → g / 2 ^ k ≤ h / 2 ^ k
    cut k = div_mono g (2 ^ k) h (2 ^ k) (pow_pos k) (pow_pos k) (mul-le-mul_right (2 ^ k) l)

    more : (a x y : ℕ) → x ≤ y → a + x ≤ a + y
    more a x y l = omega arith

    go : (size g - 53 ≡ size h - 53) ⊎ (size g - 53 < size h - 53) → packed g ≤ packed h
    go (inl e) = subst (λ (k : ℕ). k * 4503599627370496 + g / 2 ^ k ≤ packed h) (sym e)
        (more ((size h - 53) * 4503599627370496) (g / 2 ^ (size h - 53)) (h / 2 ^ (size h - 53)) (cut (size h - 53)))
    go (inr l) = le_of_lt (packed_lt g h l)

-- ---- a value's units give its word

value_bits : (x : Float) (s : Bool) (g : ℕ) → HasValue x s g (2 ^ 1074)
    → to_bits binary64 x ≡ cond s (top binary64) 0 + packed g
unfolding to_bits packed
value_bits nan s g h = absurd h
value_bits (inf t) s g h = absurd h
value_bits (fin t m e) s g h =
    let n : m * up e * 2 ^ 1074 / down e ≡ g = ap (λ (z : ℕ). z / down e) h.1 ∙ mul-div_cancel g (down_pos e) in
    ap (λ (z : ℕ). cond t (top binary64) 0 + (size z - 53) * 4503599627370496 + z / 2 ^ (size z - 53)) n
    ∙ ap (λ (b : Bool). cond b (top binary64) 0 + (size g - 53) * 4503599627370496 + g / 2 ^ (size g - 53)) h.0
    ∙ add_assoc (cond s (top binary64) 0) ((size g - 53) * 4503599627370496) (g / 2 ^ (size g - 53))

round_value : (s : Bool) (a c : ℕ) → grid binary64 a c < overflow binary64
    → HasValue (round binary64 s a c) s (grid binary64 a c) (2 ^ 1074)
unfolding round
round_value s a c h = units_val binary64 s (kept 53 (a * 2 ^ 1074) c) (drop 53 (a * 2 ^ 1074) c) h

pub round_bits : (s : Bool) (a c : ℕ) → grid binary64 a c < overflow binary64
    → to_bits binary64 (round binary64 s a c) ≡ cond s (top binary64) 0 + packed (grid binary64 a c)
round_bits s a c h = value_bits (round binary64 s a c) s (grid binary64 a c) (round_value s a c h)

-- ---- no number of a line is too large

grid_under : (a c : ℕ) → 0 < c → a < 2 ^ 130 * c → grid binary64 a c < overflow binary64
grid_under a c C h =
    let n = a * 2 ^ 1074 in
    let k = drop 53 n c in
    let u = c * 2 ^ k in
    let w : n / c < 2 ^ 1204 =
    (div-lt_iff_lt-mul C).1 (lt_of_lt_of_le (mul-lt-mul_of_pos_right h (pow_pos 1074))
    (le_of_eq (mul_right_comm (2 ^ 130) c (2 ^ 1074)))) in
    let z : k ≤ 1151 = fewer (size (n / c)) 1204 53 (size-le (n / c) 1204 w) in
    let q : kept 53 n c ≤ 2 ^ 53 =
    le_trans (nearest-le (n / u) (compare (n % u * 2) u)) (subst (λ (x : ℕ). x < 2 ^ 53) (div-div-eq-div-mul n c
    (2 ^ k)) (kept-lt 53 (n / c))) in
    lt_of_le_of_lt (mul-le-mul q (pow_mono z)) (lit< tt)

-- ---- a value that is not above another has no more units

or_split : (a b : Bool) → T (a || b) → T a ⊎ T b
or_split true b t = inl tt
or_split false b t = inr t

lt_or_eq : (a b : ℕ) → T (ltb a b || (eqb a b && true)) → a ≤ b
lt_or_eq a b t = elim (or_split (ltb a b) (eqb a b && true) t) [
  | inl u ↦ le_of_lt (ltb→lt a b u)
  | inr u ↦ le_of_eq
      (eqb→eq a b (and_l (eqb a b) true u))
]

le_cross : (x y : Float) (a c b d : ℕ) → HasValue x false a c → HasValue y false b d → T (le x y)
    → num x * den y ≤ num y * den x
unfolding le
le_cross nan y a c b d h k l = absurd h
le_cross (inf s) y a c b d h k l = absurd h
le_cross (fin true m e) y a c b d h k l = absurd (true≢false h.0)
le_cross (fin false m e) nan a c b d h k l = absurd k
le_cross (fin false m e) (inf t) a c b d h k l = absurd k
le_cross (fin false m e) (fin true n g) a c b d h k l = absurd (true≢false k.0)
le_cross (fin false m e) (fin false n g) a c b d h k l = lt_or_eq (m * up e * down g) (n * up g * down e) l

le_values : (x y : Float) (a c b d : ℕ) → HasValue x false a c → HasValue y false b d → T (le x y) → a * d ≤ b * c
le_values x y a c b d h k l = transfer a b c d (num x) (num y) (den x) (den y) (den_pos x) (den_pos y)
    (sym (value→cross x a c h)) (sym (value→cross y b d k)) (le_cross x y a c b d h k l)

cancel : (a b : ℕ) → a * 2 ^ 1074 ≤ b * 2 ^ 1074 → a ≤ b
cancel a b h = le_of_mul-le-mul_right h (pow_pos 1074)

grid_le : (a b c : ℕ) → 0 < c → b < 2 ^ 130 * c → a ≤ b → grid binary64 a c ≤ grid binary64 b c
grid_le a b c C o h =
    cancel (grid binary64 a c) (grid binary64 b c)
    (le_values (round binary64 false a c) (round binary64 false b c) (grid binary64 a c) (2 ^ 1074)
    (grid binary64 b c) (2 ^ 1074)
    (round_value false a c (grid_under a c C (lt_of_le_of_lt h o))) (round_value false b c (grid_under b c C o))
    (round_mono binary64 a c b c C C (mul-le-mul_right c h)))

-- ---- the same for digits and a power

pub held : (d q : ℕ) → d < digits_end → q < 45 → d * 10 ^ q < 2 ^ 130 * 10 ^ 22
held d q h l = lt_of_le_of_lt (mul-le-mul (le_of_lt h) (pow-le-pow_right (zero-lt-suc 9) (le_of_lt l))) (lit< tt)

size_is : (d q : ℕ) → d < digits_end → q < 45 → size_bits d q ≡ packed (grid binary64 (d * 10 ^ q) (10 ^ 22))
unfolding size_bits rounded_of
size_is d q h l = round_bits false (d * 10 ^ q) (10 ^ 22) (grid_under (d * 10 ^ q) (10 ^ 22) (ten_pos 22)
    (held d q h l)) ∙ zero-add (packed (grid binary64 (d * 10 ^ q) (10 ^ 22)))

pub size_mono : (d e q : ℕ) → d ≤ e → e < digits_end → q < 45 → size_bits d q ≤ size_bits e q
size_mono d e q h k l =
    rw (size_is d q (lt_of_le_of_lt h k) l, size_is e q k l)
    (packed_le _ _ (grid_le (d * 10 ^ q) (e * 10 ^ q) (10 ^ 22) (ten_pos 22) (held e q k l)
    (mul-le-mul_right (10 ^ q) h)))

pub size_zero : (q : ℕ) → size_bits 0 q ≡ 0
unfolding size_bits rounded_of round to_bits
size_zero q = ap (to_bits binary64) (round_same binary64 false (0 * 10 ^ q) (10 ^ 22) 0 1 (ten_pos 22) (lit< tt)
    (ap (λ (z : ℕ). z * 1) (zero-mul (10 ^ q))))

-- ---- ten is above eight, so that a power more is a binary digit more at least

eight : (g : ℕ) → 53 ≤ size g → size g - 53 < size (g * 2 ^ 3) - 53
eight g h = more (size g) (size (g * 2 ^ 3)) h (lt_of_not-le (λ (l : size (g * 2 ^ 3) ≤ size g). not-le_of_lt
    (lt_of_lt_of_le (size-lt (g * 2 ^ 3)) (pow_mono l)) (reached g h)))
  where
    more : (x y : ℕ) → 53 ≤ x → x < y → x - 53 < y - 53
    more x y h l = omega arith

    doubled : (p n g : ℕ) → p ≤ g → n ≡ p * 2 → n ≤ g * 8
    doubled p n g l e = omega arith

    reached : (g : ℕ) → 53 ≤ size g → 2 ^ size g ≤ g * 8
    reached g h =
        let z : suc (size g - 1) ≡ size g = omega arith in
        doubled (2 ^ (size g - 1)) (2 ^ size g) g (size_reaches g (size g - 1) (omega arith))
        (ap (λ (x : ℕ). 2 ^ x) (sym z) ∙ pow-suc 2 (size g - 1))

full : (a c : ℕ) → 53 ≤ size (a * 2 ^ 1074 / c) → 53 ≤ size (grid binary64 a c)
full a c h =
    let n = a * 2 ^ 1074 in
    let w = n / c in
    let k = drop 53 n c in
    let u = c * 2 ^ k in
    let r : 2 ^ 52 * 2 ^ k ≤ w =
    le_trans (le_of_eq (sym (pow-add 2 52 k))) (size_reaches w (52 + k) (inside (size w) h)) in
    let v : 2 ^ 52 ≤ n / u = subst (λ (x : ℕ). 2 ^ 52 ≤ x) (div-div-eq-div-mul n c (2 ^ k))
    ((le-div_iff_mul-le (pow_pos k)).1 r) in
    let q : 2 ^ 52 ≤ kept 53 n c = le_trans v (nearest-ge (n / u) (compare (n % u * 2) u)) in
    let g : 2 ^ 52 * 1 ≤ kept 53 n c * 2 ^ k = mul-le-mul q (pow_pos k) in
    lt_of_not-le (λ (l : size (grid binary64 a c) ≤ 52). not-le_of_lt (lt_of_lt_of_le (size-lt (grid binary64 a c))
    (pow_mono l)) g)
  where
    inside : (z : ℕ) → 53 ≤ z → 52 + (z - 53) < z
    inside z h = omega arith

ten_times : (d e p q : ℕ) → d ≤ e → p < q → d * 10 ^ p * 2 ^ 3 ≤ e * 10 ^ q
ten_times d e p q h r =
    let a : d * 10 ^ p ≤ e * 10 ^ p = mul-le-mul_right (10 ^ p) h in
    let b : e * 10 ^ suc p ≤ e * 10 ^ q = mul-le-mul_left e (pow-le-pow_right (zero-lt-suc 9) r) in
    let c : e * 10 ^ suc p ≡ e * 10 ^ p * 10 = ap (λ (z : ℕ). e * z) (pow-suc 10 p) ∙ sym (mul_assoc e (10 ^ p) 10) in
    tenth (d * 10 ^ p) (e * 10 ^ p) (e * 10 ^ suc p) (e * 10 ^ q) a c b
  where
    tenth : (x y z w : ℕ) → x ≤ y → z ≡ y * 10 → z ≤ w → x * 8 ≤ w
    tenth x y z w a b c = omega arith

pub size_rise : (d e p q : ℕ) → 0 < d → d ≤ e → p < q → e < digits_end → q < 45 → size_bits d p < size_bits e q
size_rise d e p q z h r k l =
    let a = d * 10 ^ p in
    let b = e * 10 ^ q in
    let c = 10 ^ 22 in
    let one : 1 ≤ a = mul-pos z (ten_pos p) in
    let normal : 53 ≤ size (a * 2 ^ 1074 / c) =
    normal_of_fraction binary64 a c (ten_pos 22) (le_trans (lit≤ tt) (mul-le-mul_right (2 ^ 1074) one)) in
    let up : a * 2 ^ 3 ≤ b = ten_times d e p q h r in
    let g : grid binary64 a c * 2 ^ 3 ≤ grid binary64 b c =
    le_trans (le_of_eq (sym (grid_scale binary64 a c 3 (ten_pos 22) normal))) (grid_le (a * 2 ^ 3) b c
    (ten_pos 22) (held e q k l) up) in
    rw (size_is d p (lt_of_le_of_lt h k) (omega arith), size_is e q k l)
    (lt_of_lt_of_le (packed_lt (grid binary64 a c) (grid binary64 a c * 2 ^ 3) (eight (grid binary64 a c)
    (full a c normal))) (packed_le _ _ g))

-- ---- the least word and the highest

first : 0 < packed (2 ^ 52)
unfolding packed size
first = lit< tt

last : packed (2 ^ 2098) < sign_weight
unfolding packed size
last = lit< tt

pub size_pos : (d q : ℕ) → 0 < d → d < digits_end → q < 45 → 0 < size_bits d q
size_pos d q z h l =
    let a = d * 10 ^ q in
    let c = 10 ^ 22 in
    let normal : 53 ≤ size (a * 2 ^ 1074 / c) =
    normal_of_fraction binary64 a c (ten_pos 22) (le_trans (lit≤ tt) (mul-le-mul_right (2 ^ 1074)
    (mul-pos z (ten_pos q)))) in
    rw (size_is d q h l) (lt_of_lt_of_le first (packed_le (2 ^ 52) (grid binary64 a c)
    (size_reaches (grid binary64 a c) 52 (full a c normal))))

pub size_under : (d q : ℕ) → d < digits_end → q < 45 → size_bits d q < sign_weight
size_under d q h l =
    rw (size_is d q h l)
    (lt_of_le_of_lt (packed_le (grid binary64 (d * 10 ^ q) (10 ^ 22)) (2 ^ 2098)
    (le_of_lt (grid_under (d * 10 ^ q) (10 ^ 22) (ten_pos 22) (held d q h l)))) last)

-- a sign stands above every size
pub word_is : (minus : Bool) (d q : ℕ) → d < digits_end → q < 45
    → word_of minus d q ≡ cond (minus && ltb 0 d) sign_weight 0 + size_bits d q
unfolding word_of value_of
word_is minus d q h l =
    round_bits (minus && ltb 0 d) (d * 10 ^ q) (10 ^ 22) (grid_under (d * 10 ^ q) (10 ^ 22) (ten_pos 22) (held d q h l))
    ∙ ap (λ (z : ℕ). cond (minus && ltb 0 d) sign_weight 0 + z) (sym (size_is d q h l))
