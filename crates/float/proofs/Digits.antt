-- How many binary digits a number has, and the number with its trailing zeros taken off.
use mathlib.Core.Path.{◌≡◌, refl, sym, ap, subst, ◌∙◌}
use mathlib.Core.Bool.{false}
use Prim.Native.Nat.{ℕ, zero, suc, ◌+◌, ◌-◌, ◌*◌, ◌/◌, ◌^◌, ◌≤◌, ◌<◌}
use native.Mathlib.Nat.{le_antisymm, lt_of_le_of_lt, lt_of_lt_of_le, lt_of_not-le, lt_irrefl, mul-one, mul-le-mul_right}
use native.Mathlib.Nat.{mul-lt-mul_of_pos_right, le_trans, le_of_eq}
use native.Mathlib.Omega.{arith}
use lib.Count.{count_trailing_zeros}
use lib.Pow.{pow-add, pow_mono, pow_pos}
use lib.Ieee.{odd, size}
use lib.Ieee.Digits.{odd_val, size-lt, size-le, size_reaches}
use lib.Dec.{leb-zero}

powers_back : (i p : ℕ) → 2 ^ i < 2 ^ p → i < p
powers_back i p h = lt_of_not-le (λ (g : p ≤ i). lt_irrefl (2 ^ i) (lt_of_lt_of_le h (pow_mono g)))

pub size_is : (a n : ℕ) → 2 ^ a ≤ n → n < 2 ^ suc a → size n ≡ suc a
size_is a n lo hi = le_antisymm (size-le n (suc a) hi) (powers_back a (size n) (lt_of_le_of_lt lo (size-lt n)))

pub record Leads (n j : ℕ) : Type 0 where
  pub digits : size n ≡ suc j
  pub reached : 2 ^ j ≤ n
  pub under : n < 2 ^ suc j

leading : (n : ℕ) → 0 < n → (j : ℕ) × Leads n j
leading n h = go (size n) refl
  where
    go : (z : ℕ) → size n ≡ z → (j : ℕ) × Leads n j
    go zero e = let l : n < 2 ^ 0 = subst (λ (x : ℕ). n < 2 ^ x) e (size-lt n) in absurd (omega arith)
    go (suc j) e = (
      j,
      record {
        digits = e;
        reached = size_reaches n j (omega arith);
        under = subst (λ (x : ℕ). n < 2 ^ x) e (size-lt n);
      },
    )

pub size_shifted : (m t : ℕ) → 0 < m → size (m * 2 ^ t) ≡ size m + t
size_shifted m t h =
    let d = leading m h in
    let j = d.0 in
    let lo = le_trans (le_of_eq (pow-add 2 j t)) (mul-le-mul_right (2 ^ t) d.1.reached) in
    let up : suc j + t ≡ suc (j + t) = omega arith in
    let hi = lt_of_lt_of_le (mul-lt-mul_of_pos_right d.1.under (pow_pos t))
    (le_of_eq (sym (pow-add 2 (suc j) t) ∙ ap (λ (x : ℕ). 2 ^ x) up)) in
    size_is (j + t) (m * 2 ^ t) lo hi ∙ omega (arith, d.1.digits)

pub some_digit : (n : ℕ) → 0 < n → 1 ≤ size n
some_digit n h = let d = leading n h in omega (arith, d.1.digits)

-- without its trailing zeros, and with them put back
pub zeros_back : (d q : ℕ) → suc q / 2 ^ count_trailing_zeros d (suc q) * 2 ^ count_trailing_zeros d (suc q) ≡ suc q
unfolding odd
zeros_back d q =
    let t = count_trailing_zeros d (suc q) in
    let m = suc q / 2 ^ t in
    let h : m * 2 ^ (0 + t - 0) * 1 ≡ suc q * 1 * 1 = rw (leb-zero (0 + t)) at (odd_val d false (suc q) 0 0) in
    ap (λ (x : ℕ). m * 2 ^ x) (plain t) ∙ sym (mul-one (m * 2 ^ (0 + t - 0))) ∙ h ∙ mul-one (suc q * 1)
    ∙ mul-one (suc q)
  where
    plain : (t : ℕ) → t ≡ 0 + t - 0
    plain t = omega arith

-- given 53 digits, a number has 53
pub filled : (n : ℕ) → 0 < n → n < 2 ^ 53 → (2 ^ 52 ≤ n * 2 ^ (53 - size n)) × (n * 2 ^ (53 - size n) < 2 ^ 53)
filled n h l =
    let r = 53 - size n in
    let e : size (n * 2 ^ r) ≡ 53 = size_shifted n r h ∙ omega (arith, size-le n 53 l) in
    (size_reaches (n * 2 ^ r) 52 (omega (arith, e)), subst (λ (x : ℕ). n * 2 ^ r < 2 ^ x) e (size-lt (n * 2 ^ r)))
