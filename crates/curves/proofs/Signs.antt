-- Differences of whole numbers turned over and multiplied, and a quotient turned over.
use mathlib.Core.Path.{◌≡◌, sym, ap, ◌∙◌}
use mathlib.Core.Logic.{◌⊎◌, inl, inr}
use Prim.Native.Nat.{ℕ, zero, suc, ◌+◌, ◌-◌, ◌*◌, ◌^◌, ◌/◌, ◌<◌, ◌≤◌}
use native.Mathlib.Nat.{mul-le-mul_right, zero-mul, zero-div}
use native.Mathlib.Omega.{arith}
use lib.IntN.{ℤ, pos, negsuc, neg_ℤ, sub_ℕ, ◌*ℤ◌, neg_ℤ-neg_ℤ}
use Rattle.quotients.specs.Quotient.{quotient_of, quotient_negative}
use Rattle.whole.specs.laws.Biased.{below_or_not, sub_up, sub_down, sub_eq, sub_from_zero}

-- a difference that is negative, as its size turned over
downward : (a b : ℕ) → a < b → sub_ℕ a b ≡ neg_ℤ (pos (b - a))
downward a b h = sub_eq a b 0 (b - a) (omega arith) ∙ sub_from_zero (b - a)

-- turned over, the numbers change places
pub sub_turned : (a b : ℕ) → neg_ℤ (sub_ℕ a b) ≡ sub_ℕ b a
sub_turned a b = split (below_or_not a b)
  where
    split : (a < b) ⊎ (b ≤ a) → neg_ℤ (sub_ℕ a b) ≡ sub_ℕ b a
    split (inl h) = ap neg_ℤ (downward a b h) ∙ neg_ℤ-neg_ℤ (pos (b - a)) ∙ sym (sub_up b a (omega arith))
    split (inr h) = ap neg_ℤ (sub_up a b h) ∙ sym (sub_eq b a 0 (a - b) (omega arith) ∙ sub_from_zero (a - b))

-- multiplied, both are
pub sub_times : (a b k : ℕ) → sub_ℕ a b *ℤ pos k ≡ sub_ℕ (a * k) (b * k)
sub_times a b k = split (below_or_not a b)
  where
    split : (a < b) ⊎ (b ≤ a) → sub_ℕ a b *ℤ pos k ≡ sub_ℕ (a * k) (b * k)
    split (inl h) =
        let n = b - suc a in
        let e : suc n + a ≡ b = omega arith in
        let g = ap (λ (y : ℕ). y * k) e in
        ap (λ (z : ℤ). z *ℤ pos k) (sub_down a b h)
        ∙ sym (sub_eq (a * k) (b * k) 0 (suc n * k) (omega arith) ∙ sub_from_zero (suc n * k))
    split (inr h) =
        let n = a - b in
        let e : n + b ≡ a = omega arith in
        let g = ap (λ (y : ℕ). y * k) e in
        let l : n * k ≡ a * k - b * k = omega arith in
        ap (λ (z : ℤ). z *ℤ pos k) (sub_up a b h) ∙ ap pos l ∙ sym (sub_up (a * k) (b * k) (mul-le-mul_right k h))

-- a quotient rounded toward zero turns over with its dividend
pub quotient_turned : (z : ℤ) (s d : ℕ) → quotient_of (neg_ℤ z) s d ≡ neg_ℤ (quotient_of z s d)
quotient_turned (pos zero) s d =
    let e : 0 * 2 ^ s / d ≡ 0 = ap (λ (n : ℕ). n / d) (zero-mul (2 ^ s)) ∙ zero-div d in
    ap pos e ∙ sym (ap (λ (n : ℕ). neg_ℤ (pos n)) e)
quotient_turned (pos (suc n)) s d = quotient_negative n s d
quotient_turned (negsuc n) s d = sym (ap neg_ℤ (quotient_negative n s d) ∙ neg_ℤ-neg_ℤ (pos (suc n * 2 ^ s / d)))
