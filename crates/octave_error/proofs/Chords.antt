-- A law on chords, in whole numbers: between two points whose powers are bounded, a chord's power is bounded by the
-- chord of the bounds; what follows of its floor.
use mathlib.Core.Path.{◌≡◌, ap, ◌∙◌}
use mathlib.Core.Logic.{◌⊎◌, inl, inr}
use Prim.Native.Nat.{ℕ, suc, ◌+◌, ◌-◌, ◌*◌, ◌/◌, ◌%◌, ◌^◌, ◌≤◌, ◌<◌}
use native.Mathlib.Nat.{le_of_mul-le-mul_right, lt_of_mul-lt-mul_right, mul-le-mul_left, mul-le-mul_right, mul-suc}
use native.Mathlib.Nat.{mul-lt-mul_of_pos_left, pow-le-pow_left, one-le-pow, div-add-mod', mod-lt}
use native.Mathlib.Omega.{arith}
use Rattle.whole.specs.laws.Biased.{below_or_not}
use Rattle.octave_error.proofs.Powers.{mul_pow}

-- what holds of the n-th powers of b and d holds of x and y, where x is to y as b to d at most
scaled : (n f e x y b d : ℕ) → 0 < d → x * d ≤ b * y → f * b ^ n ≤ e * d ^ n → f * x ^ n ≤ e * y ^ n
scaled n f e x y b d p h l =
    le_of_mul-le-mul_right {k = d ^ n}
    (omega (
      arith,
      ap (λ (z : ℕ). f * z) (mul_pow x d n),
      ap (λ (z : ℕ). f * z) (mul_pow b y n),
      mul-le-mul_left f (pow-le-pow_left h n),
      mul-le-mul_right (y ^ n) l,
    ))
    (one-le-pow n d p)

-- p shares of one point and q of the other
chord : (n f e p q a b c d : ℕ) → 0 < c → 0 < d → f * a ^ n ≤ e * c ^ n → f * b ^ n ≤ e * d ^ n →
    f * (p * a + q * b) ^ n ≤ e * (p * c + q * d) ^ n
chord n f e p q a b c d c0 d0 h l = split (below_or_not (a * d) (b * c))
  where
    split : (a * d < b * c) ⊎ (b * c ≤ a * d) → f * (p * a + q * b) ^ n ≤ e * (p * c + q * d) ^ n
    split (inl s) =
        let s' : a * d ≤ b * c = omega arith in
        scaled n f e (p * a + q * b) (p * c + q * d) b d d0 (omega (arith, mul-le-mul_left p s')) l
    split (inr s) =
        scaled n f e (p * a + q * b) (p * c + q * d) a c c0 (omega (arith, mul-le-mul_left q s)) h

-- the law on chords, with a factor on one side alone
module _ (n e p q a b c d : ℕ) (c0 : 0 < c) (d0 : 0 < d) where
  pub chord_upper : a ^ n ≤ e * c ^ n → b ^ n ≤ e * d ^ n → (p * a + q * b) ^ n ≤ e * (p * c + q * d) ^ n
  chord_upper h l = let g = chord n 1 e p q a b c d c0 d0 (omega arith) (omega arith) in omega arith

  pub chord_lower : e * a ^ n ≤ c ^ n → e * b ^ n ≤ d ^ n → e * (p * a + q * b) ^ n ≤ (p * c + q * d) ^ n
  chord_lower h l = let g = chord n e 1 p q a b c d c0 d0 (omega arith) (omega arith) in omega arith

-- the chord from t to u at r of s shares, and its floor
module _ (s p r t u : ℕ) (shares : p + r ≡ s) (rises : t ≤ u) (s0 : 0 < s) where
  abbrev pub floor : ℕ
  floor = t + (u - t) * r / s

  between : (u - t) * r / s * s + (u - t) * r % s + s * t ≡ p * t + r * u
  between =
      let d : u ≡ t + (u - t) = omega arith in
      omega (arith, div-add-mod' ((u - t) * r) s, ap (λ (x : ℕ). r * x) d, ap (λ (x : ℕ). x * t) shares)

  pub floor_low : floor * s ≤ p * t + r * u
  floor_low = omega (arith, between)

  pub floor_high : p * suc t + r * suc u ≤ s * (floor + 2)
  floor_high = omega (arith, mul-suc p t, mul-suc r u, between, mod-lt ((u - t) * r) s0)

-- two more, less one part in v + 1, is no more than one more
pub less_a_part : (s v c m : ℕ) → v ≤ m → c ≤ s * (m + 2) → c * v ≤ s * (v + 1) * (m + 1)
less_a_part s v c m h l =
    let e : (m + 2) * v ≤ (v + 1) * (m + 1) = omega arith in
    omega (arith, mul-le-mul_right v l, mul-le-mul_left s e)

-- from a chord c of s shares that is at least s * m, and the chord w of bounds, to m
pub chord_above : (n a b s o m c w k g : ℕ) → 0 < k → m * s ≤ c → c ^ n ≤ k * w ^ n →
    (a * w) ^ n < (b * s * o) ^ n * g → (a * m) ^ n < b ^ n * (o ^ n * (k * g))
chord_above n a b s o m c w k g k0 h l t =
    let e = mul_pow (b * s) o n ∙ ap (λ (z : ℕ). z * o ^ n) (mul_pow b s n) in
    lt_of_mul-lt-mul_right (s ^ n)
    (omega (
      arith,
      ap (λ (z : ℕ). z * s ^ n) (mul_pow a m n),
      ap (λ (z : ℕ). a ^ n * z) (mul_pow m s n),
      ap (λ (z : ℕ). k * z) (mul_pow a w n),
      ap (λ (z : ℕ). k * (z * g)) e,
      mul-le-mul_left (a ^ n) (pow-le-pow_left h n),
      mul-le-mul_left (a ^ n) l,
      mul-lt-mul_of_pos_left {k = k} t k0,
    ))

-- from a chord c of s shares of which p parts are at most q parts of s * m, and the chord w of bounds, to m
pub chord_below : (n p q s o m c w k g : ℕ) → 0 < k → c * p ≤ s * q * m → k * w ^ n ≤ c ^ n →
    (s * q * o) ^ n * g < (w * p) ^ n → o ^ n * (k * g) < m ^ n
chord_below n p q s o m c w k g k0 h l t =
    lt_of_mul-lt-mul_right ((s * q) ^ n)
    (omega (
      arith,
      ap (λ (z : ℕ). k * (z * g)) (mul_pow (s * q) o n),
      mul_pow (s * q) m n,
      ap (λ (z : ℕ). k * z) (mul_pow w p n),
      mul_pow c p n,
      pow-le-pow_left h n,
      mul-le-mul_right (p ^ n) l,
      mul-lt-mul_of_pos_left {k = k} t k0,
    ))
