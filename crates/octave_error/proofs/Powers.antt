-- Powers of products and of powers, and how comparisons of n-th powers become comparisons of higher ones.
use mathlib.Core.Path.{◌≡◌, sym, ap, ap₂, ◌∙◌}
use Prim.Native.Nat.{ℕ, zero, suc, ◌+◌, ◌*◌, ◌^◌, ◌≤◌, ◌<◌}
use native.Mathlib.Nat.{pow-zero, pow-suc, mul-zero, mul-suc, mul_comm, mul-mul-mul_comm, one-le-pow}
use native.Mathlib.Nat.{mul-le-mul_left, mul-lt-mul_of_pos_left, lt_of_mul-lt-mul_right}
use native.Mathlib.Nat.{pow-le-pow_left, pow-lt-pow_left}
use native.Mathlib.Omega.{arith}
use lib.Pow.{pow-add}

pub mul_pow : (a b n : ℕ) → (a * b) ^ n ≡ a ^ n * b ^ n
mul_pow a b zero = pow-zero (a * b) ∙ sym (ap₂ (λ (x y : ℕ). x * y) (pow-zero a) (pow-zero b))
mul_pow a b (suc n) =
    pow-suc (a * b) n ∙ ap (λ (x : ℕ). x * (a * b)) (mul_pow a b n) ∙ mul-mul-mul_comm (a ^ n) (b ^ n) a b
    ∙ sym (ap₂ (λ (x y : ℕ). x * y) (pow-suc a n) (pow-suc b n))

pow_pow : (a m n : ℕ) → (a ^ m) ^ n ≡ a ^ (m * n)
pow_pow a m zero = pow-zero (a ^ m) ∙ sym (ap (λ (x : ℕ). a ^ x) (mul-zero m) ∙ pow-zero a)
pow_pow a m (suc n) =
    pow-suc (a ^ m) n ∙ ap (λ (x : ℕ). x * a ^ m) (pow_pow a m n) ∙ sym (pow-add a (m * n) m)
    ∙ ap (λ (x : ℕ). a ^ x) (sym (mul-suc m n))

-- the power that an entry stands for, with a places, and one whose exponent is parted in two
pub power_is : (n a k : ℕ) → 2 ^ (a * n + k) ≡ 2 ^ k * (2 ^ a) ^ n
power_is n a k =
    pow-add 2 (a * n) k ∙ ap (λ (x : ℕ). x * 2 ^ k) (sym (pow_pow 2 a n)) ∙ mul_comm ((2 ^ a) ^ n) (2 ^ k)

pub power_parted : (n a i r k : ℕ) → i + r ≡ k → (2 ^ a) ^ n * (2 ^ i * 2 ^ r) ≡ 2 ^ (a * n + k)
power_parted n a i r k e =
    mul_comm ((2 ^ a) ^ n) (2 ^ i * 2 ^ r)
    ∙ ap (λ (x : ℕ). x * (2 ^ a) ^ n) (sym (pow-add 2 i r) ∙ ap (λ (x : ℕ). 2 ^ x) e)
    ∙ sym (power_is n a k)

-- from one such power to the next it is no farther than from the first to what is above the second, and no less far
-- than to what is not
module _ (n o j u v : ℕ) where
  pub next_upper : u ^ n ≤ 2 ^ suc j * o ^ n → 2 ^ 1 * o ^ n < v ^ n → u ^ n ≤ 2 ^ j * v ^ n
  next_upper h l =
      let k : 2 * o ^ n ≤ v ^ n = omega arith in
      omega (arith, ap (λ (x : ℕ). x * o ^ n) (pow-suc 2 j), mul-le-mul_left (2 ^ j) k)

  pub next_lower : 2 ^ suc j * o ^ n < u ^ n → v ^ n ≤ 2 ^ 1 * o ^ n → 2 ^ j * v ^ n ≤ u ^ n
  next_lower h l =
      let k : v ^ n ≤ 2 * o ^ n = omega arith in
      omega (arith, ap (λ (x : ℕ). x * o ^ n) (pow-suc 2 j), mul-le-mul_left (2 ^ j) k)

-- bounds of n-th powers, raised to the s-th
module _ (n s j x y : ℕ) where
  bound_is : (2 ^ j * y ^ n) ^ s ≡ 2 ^ (j * s) * y ^ (n * s)
  bound_is = mul_pow (2 ^ j) (y ^ n) s ∙ ap₂ (λ (a b : ℕ). a * b) (pow_pow 2 j s) (pow_pow y n s)

  pub raise_upper : x ^ n ≤ 2 ^ j * y ^ n → x ^ (n * s) ≤ 2 ^ (j * s) * y ^ (n * s)
  raise_upper h = omega (arith, pow_pow x n s, bound_is, pow-le-pow_left h s)

  pub raise_lower : 2 ^ j * y ^ n ≤ x ^ n → 2 ^ (j * s) * y ^ (n * s) ≤ x ^ (n * s)
  raise_lower h = omega (arith, pow_pow x n s, bound_is, pow-le-pow_left h s)

  pub raise_strictly : 0 < s → 2 ^ j * y ^ n < x ^ n → y ^ (n * s) * (2 ^ (j * s) * 2 ^ 0) < x ^ (n * s)
  raise_strictly s0 h =
      omega (arith, pow_pow x n s, bound_is, pow-lt-pow_left {n = s} h (λ (e : s ≡ 0). omega arith))

-- a comparison in which t stands to the first power, raised to the n-th: t's power is known by g and u
module _ (n x y t u g : ℕ) where
  pub raise_less : 0 < n → x ^ n * u < y ^ n * t → t ^ n ≤ g * u ^ n → x ^ (n * n) < y ^ (n * n) * g
  raise_less n0 h l =
      lt_of_mul-lt-mul_right (u ^ n)
      (omega (
        arith,
        ap (λ (z : ℕ). z * u ^ n) (pow_pow x n n),
        ap (λ (z : ℕ). z * (g * u ^ n)) (pow_pow y n n),
        mul_pow (x ^ n) u n,
        mul_pow (y ^ n) t n,
        pow-lt-pow_left {n = n} h (λ (e : n ≡ 0). omega arith),
        mul-le-mul_left ((y ^ n) ^ n) l,
      ))

  pub raise_more : 0 < y → y ^ n * t ≤ x ^ n * u → g * u ^ n < t ^ n → y ^ (n * n) * g < x ^ (n * n)
  raise_more y0 h l =
      lt_of_mul-lt-mul_right (u ^ n)
      (omega (
        arith,
        ap (λ (z : ℕ). z * u ^ n) (pow_pow x n n),
        ap (λ (z : ℕ). z * (g * u ^ n)) (pow_pow y n n),
        mul_pow (x ^ n) u n,
        mul_pow (y ^ n) t n,
        pow-le-pow_left h n,
        mul-lt-mul_of_pos_left {k = (y ^ n) ^ n} l (one-le-pow n (y ^ n) (one-le-pow n y y0)),
      ))
