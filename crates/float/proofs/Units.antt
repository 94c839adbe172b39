-- The split of q * 2^k units of 2^-1074, which is what the fields of a pattern stand for.
use mathlib.Core.Path.{◌≡◌, refl, sym, ap, ap₂, subst, ◌∙◌}
use mathlib.Core.Bool.{Bool, true, false, cond}
use Prim.Native.Nat.{ℕ, zero, suc, ◌+◌, ◌-◌, ◌*◌, ◌/◌, ◌^◌, ◌≤◌, ◌<◌}
use native.Mathlib.Nat.{mul_assoc, mul-one, zero-mul, not-suc-le-zero}
use native.Mathlib.Omega.{arith}
use lib.Dec.{T, eqb}
use lib.IntN.{ℤ, pos, negsuc, sub_ℕ, ◌+ℤ◌}
use lib.Count.{count_trailing_zeros}
use lib.Pow.{pow-add}
use lib.Ieee.{Float, nan, inf, fin, binary64, odd, minus, size, of_fields}
use lib.Ieee.Digits.{size-le}
use lib.Ieee.Scale.{finite}
use Rattle.float.specs.declared.Split.{Split}
use Rattle.float.specs.Split.{whole_f, power_k, split_a, split_b, split_of, split_bias, kept_power}
use Rattle.float.proofs.Difference.{same_difference, sum_difference, minus_difference, kept_difference}
use Rattle.float.proofs.Digits.{size_is, size_shifted, zeros_back}

some_a : (s : Bool) (m : ℕ) (e : ℤ) → 0 < m → split_a (fin s m e) ≡ whole_f m / 2 ^ 22
some_a s zero e h = absurd (not-suc-le-zero h)
some_a s (suc m) e h = refl

some_b : (s : Bool) (m : ℕ) (e : ℤ) → 0 < m → split_b (fin s m e) ≡ power_k m e +ℤ pos 22
some_b s zero e h = absurd (not-suc-le-zero h)
some_b s (suc m) e h = refl

-- a power from a difference of exponents
power_at : (k z : ℕ) → sub_ℕ k 1074 +ℤ sub_ℕ z 53 +ℤ pos 22 ≡ sub_ℕ (k + z + 22) 1127
power_at k z = ap (λ (x : ℤ). x +ℤ pos 22) (sum_difference k 1074 z 53) ∙ sum_difference (k + z) 1127 22 0

left_factor : (m p q : ℕ) → m * p ≡ suc q → 0 < m
left_factor zero p q h = let z = zero-mul p in omega arith
left_factor (suc m) p q h = omega arith

-- an odd number in place of suc q: F is the same, and k makes up for the digits taken off
module _ (s : Bool) (q k : ℕ) (h : suc q < 2 ^ 53) where
  abbrev t : ℕ
  t = count_trailing_zeros 53 (suc q)

  abbrev m : ℕ
  m = suc q / 2 ^ t

  some : 0 < m
  some = left_factor m (2 ^ t) q (zeros_back 53 q)

  sizes : size (suc q) ≡ size m + t
  sizes = ap size (sym (zeros_back 53 q)) ∙ size_shifted m t some

  within : size m + t ≤ 53
  within = subst (λ (x : ℕ). x ≤ 53) sizes (size-le (suc q) 53 h)

  same_f : whole_f m ≡ whole_f (suc q)
  same_f =
      let r = 53 - (size m + t) in
      ap (λ (x : ℕ). m * 2 ^ x) (apart (size m) t within)
      ∙ ap (λ (x : ℕ). m * x) (pow-add 2 t r)
      ∙ sym (mul_assoc m (2 ^ t) (2 ^ r))
      ∙ ap₂ (λ (x y : ℕ). x * 2 ^ (53 - y)) (zeros_back 53 q) (sym sizes)
    where
      apart : (z t : ℕ) → z + t ≤ 53 → 53 - z ≡ t + (53 - (z + t))
      apart z t w = omega arith

  odd_a : split_a (odd 53 s (suc q) k 1074) ≡ whole_f (suc q) / 2 ^ 22
  unfolding odd
  odd_a = some_a s m (minus (k + t) 1074) some ∙ ap (λ (x : ℕ). x / 2 ^ 22) same_f

  odd_b : split_b (odd 53 s (suc q) k 1074) ≡ sub_ℕ (k + size (suc q)) 1105
  unfolding odd
  odd_b =
      some_b s m (minus (k + t) 1074) some
      ∙ ap (λ (z : ℤ). z +ℤ sub_ℕ (size m) 53 +ℤ pos 22) (minus_difference (k + t) 1074)
      ∙ power_at (k + t) (size m)
      ∙ same_difference (k + t + size m + 22) 1127 (k + size (suc q)) 1105 (sums k t (size m) (size (suc q)) sizes)
    where
      sums : (k t z y : ℕ) → y ≡ z + t → k + t + z + 22 + 1105 ≡ k + y + 1127
      sums k t z y e = omega arith

-- the split by its units, in the numbers that the code has
abbrev pub units_of : ℕ → ℕ → Split
units_of zero k = record { a = 0; down = split_bias }
units_of (suc q) k = record { a = whole_f (suc q) / 2 ^ 22; down = 9277 - (k + size (suc q)) }

kept : (x : ℕ) → x ≤ 9277 → kept_power (sub_ℕ x 1105) ≡ 9277 - x
kept x h = kept_difference x 1105 (omega arith)

odd_zero : (s : Bool) (k : ℕ) → odd 53 s 0 k 1074 ≡ fin s 0 (pos 0)
unfolding odd
odd_zero s k = refl

pub odd_split : (s : Bool) (q k : ℕ) → q < 2 ^ 53 → k ≤ 2047 → split_of (odd 53 s q k 1074) ≡ units_of q k
odd_split s zero k h l = ap split_of (odd_zero s k)
odd_split s (suc q) k h l =
    ap₂ (λ (x y : ℕ). record { a = x; down = y })
    (odd_a s q k h)
    (ap kept_power (odd_b s q k h) ∙ kept (k + size (suc q)) (omega (arith, size-le (suc q) 53 h)))

pub odd_power : (s : Bool) (q k : ℕ) → q < 2 ^ 53 → k ≤ 2047
    → sub_ℕ split_bias (units_of q k).down ≡ split_b (odd 53 s q k 1074)
odd_power s zero k h l = ap split_b (sym (odd_zero s k))
odd_power s (suc q) k h l =
    same_difference split_bias (9277 - (k + size (suc q))) (k + size (suc q)) 1105 (omega (arith, size-le (suc q) 53 h))
    ∙ sym (odd_b s q k h)

-- as many units, whatever their form
pub plain_split : (n : ℕ) → n < 2 ^ 53 → split_of (fin false n (negsuc 1073)) ≡ units_of n 0
plain_split zero h = refl
plain_split (suc n) h =
    let l = size-le (suc n) 53 h in
    ap (λ (y : ℕ). record { a = whole_f (suc n) / 2 ^ 22; down = y })
    (ap kept_power (power_at 0 (size (suc n))) ∙ kept_difference (0 + size (suc n) + 22) 1127 (omega (arith, l))
    ∙ omega arith)

-- the leading digit is there: all 53 digits are
led_size : (n : ℕ) → n < 2 ^ 52 → size (2 ^ 52 + n) ≡ 53
led_size n h = size_is 52 (2 ^ 52 + n) (omega arith) (omega arith)

pub led_units : (n j : ℕ) → n < 2 ^ 52
    → units_of (2 ^ 52 + n) j ≡ record { a = (2 ^ 52 + n) / 2 ^ 22; down = 9225 - suc j }
led_units n j h = go (2 ^ 52 + n) (led_size n h) (omega arith)
  where
    go : (q : ℕ) → size q ≡ 53 → 0 < q → units_of q j ≡ record { a = q / 2 ^ 22; down = 9225 - suc j }
    go zero e l = absurd (not-suc-le-zero l)
    go (suc q) e l =
        ap₂ (λ (x y : ℕ). record { a = x / 2 ^ 22; down = y })
        (ap (λ (z : ℕ). suc q * 2 ^ (53 - z)) e ∙ mul-one (suc q))
        (omega (arith, e))

-- a field that is neither 0 nor all ones
number : (b c s : Bool) (v : Float) → T (finite (cond b (cond c (inf s) nan) v)) → cond b (cond c (inf s) nan) v ≡ v
number true true s v h = absurd h
number true false s v h = absurd h
number false c s v h = refl

pub led_value : (s : Bool) (j n : ℕ) → T (finite (of_fields binary64 s (suc j) n))
    → of_fields binary64 s (suc j) n ≡ odd 53 s (2 ^ 52 + n) j 1074
unfolding of_fields
led_value s j n f = number (eqb (suc j) 2047) (eqb n 0) s (odd 53 s (2 ^ 52 + n) j 1074) f

-- a field of 0
pub unled_value : (s : Bool) (n : ℕ) → of_fields binary64 s 0 n ≡ odd 53 s n 0 1074
unfolding of_fields
unled_value s n = refl
