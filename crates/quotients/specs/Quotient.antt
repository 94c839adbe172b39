-- Quotients after a shift: N * 2^s / D, rounded toward zero, and a signed number whose size is held at a limit.
use Rattle.std.specs.Prelude.{◌≡◌, refl, ℕ, zero, suc, ◌*◌, ◌-◌, ◌/◌, ◌^◌, ◌≤◌, ◌<◌, ℤ, pos, negsuc, neg_ℤ, nat_abs, ◌*ℤ◌}
use Rattle.std.proofs.Common.{sym, ap, ◌∙◌, le_trans, le_of_eq, mul-le-mul_left, mul_comm, arith}
use Rattle.std.proofs.Math.Nat.{div-le_of_le-mul, zero-div}
use Rattle.std.proofs.Math.IntN.{sub_ℕ}
use Rattle.std.specs.Int.Signed.{quot_z}
use Rattle.whole.specs.Signed.{signed_span}
use Rattle.whole.specs.Scale.{held_at, stays_below, held_none}
use Rattle.whole.specs.laws.Biased.{sub_up, sub_down}

-- of a size
abbrev pub shifted_quotient : ℕ → ℕ → ℕ → ℕ
shifted_quotient n s d = n * 2 ^ s / d

-- of a signed number
abbrev pub quotient_of : ℤ → ℕ → ℕ → ℤ
quotient_of n s d = quot_z (n *ℤ pos (2 ^ s)) (pos d)

-- z, its sign kept and its size held at `over`
unfoldable pub held_size : ℕ → ℤ → ℤ
held_size over (pos n) = pos (held_at over n)
held_size over (negsuc n) = neg_ℤ (pos (held_at over (suc n)))

-- the largest shift, and the largest divisor: what a division by it leaves, shifted, is within 64 bits
abbrev pub shift_most : ℕ
shift_most = 21

abbrev pub divisor_most : ℕ
divisor_most = 2 ^ (64 - shift_most)

-- asked by `shifted_quotient`: a shift, and a divisor for it
pub record Dividing (s d : ℕ) : Type 0 where
  pub shift_small : s ≤ shift_most
  pub divisor_there : 0 < d
  pub divisor_small : d ≤ divisor_most

pub divisor_one : Dividing shift_most 1
divisor_one = record { shift_small = omega arith; divisor_there = omega arith; divisor_small = omega arith }

-- asked by `quotient`: the same, two numbers that can be taken from each other,
-- and a limit that has a place among the signed words
pub record Divisible (a b s d over : ℕ) : Type 0 where
  pub first_small : a < signed_span
  pub second_small : b < signed_span
  pub divisor : Dividing s d
  pub limit_small : over < signed_span

pub divisible_one : Divisible 0 0 shift_most 1 1
divisible_one =
    record { first_small = omega arith; second_small = omega arith; divisor = divisor_one; limit_small = omega arith }

-- a divisor no less than 2^s makes nothing larger
pub shifted_small : (n s d : ℕ) → 2 ^ s ≤ d → shifted_quotient n s d ≤ n
shifted_small n s d h = div-le_of_le-mul d (le_trans (mul-le-mul_left n h) (le_of_eq (mul_comm n d)))

negated : (m d : ℕ) → quot_z (neg_ℤ (pos m)) (pos d) ≡ neg_ℤ (pos (m / d))
negated zero d = ap pos (zero-div d) ∙ ap (λ (x : ℕ). neg_ℤ (pos x)) (sym (zero-div d))
negated (suc m) d = refl

-- the quotient of a negative number is that of its size, turned
pub quotient_negative : (n s d : ℕ) → quotient_of (negsuc n) s d ≡ neg_ℤ (pos (shifted_quotient (suc n) s d))
quotient_negative n s d = negated (suc n * 2 ^ s) d

same_size : (m : ℕ) → nat_abs (neg_ℤ (pos m)) ≡ m
same_size zero = refl
same_size (suc m) = refl

-- the quotient's size, so that it is no larger than n for a divisor no less than 2^s
pub quotient_size : (n : ℤ) (s d : ℕ) → nat_abs (quotient_of n s d) ≡ shifted_quotient (nat_abs n) s d
quotient_size (pos n) s d = refl
quotient_size (negsuc n) s d = ap nat_abs (quotient_negative n s d) ∙ same_size (shifted_quotient (suc n) s d)

pub quotient_small : (n : ℤ) (s d : ℕ) → 2 ^ s ≤ d → nat_abs (quotient_of n s d) ≤ nat_abs n
quotient_small n s d h = le_trans (le_of_eq (quotient_size n s d)) (shifted_small (nat_abs n) s d h)

-- a difference divided, by the size of it
pub quotient_up : (a b s d : ℕ) → b ≤ a → quotient_of (sub_ℕ a b) s d ≡ pos (shifted_quotient (a - b) s d)
quotient_up a b s d h = ap (λ (z : ℤ). quotient_of z s d) (sub_up a b h)

pub quotient_down : (a b s d : ℕ) → a < b → quotient_of (sub_ℕ a b) s d ≡ neg_ℤ (pos (shifted_quotient (b - a) s d))
quotient_down a b s d h =
    let e : suc (b - suc a) ≡ b - a = omega arith in
    ap (λ (z : ℤ). quotient_of z s d) (sub_down a b h) ∙ quotient_negative (b - suc a) s d
    ∙ ap (λ (n : ℕ). neg_ℤ (pos (shifted_quotient n s d))) e

-- ---- a size held

pub held_size_up : (over n : ℕ) → held_size over (pos n) ≡ pos (held_at over n)
unfolding held_size
held_size_up over n = refl

pub held_size_down : (over n : ℕ) → held_size over (neg_ℤ (pos n)) ≡ neg_ℤ (pos (held_at over n))
unfolding held_size
held_size_down over zero = ap pos (held_none over) ∙ ap (λ (m : ℕ). neg_ℤ (pos m)) (sym (held_none over))
held_size_down over (suc n) = refl

-- and a size below it is not changed
pub held_size_small : (over : ℕ) (z : ℤ) → nat_abs z < over → held_size over z ≡ z
unfolding held_size
held_size_small over (pos n) h = ap pos (stays_below over n h)
held_size_small over (negsuc n) h = ap (λ (m : ℕ). neg_ℤ (pos m)) (stays_below over (suc n) h)
