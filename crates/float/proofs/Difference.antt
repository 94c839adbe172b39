-- The difference of two natural numbers as a whole number, and how it is kept, taken from the bias.
use mathlib.Core.Path.{◌≡◌, sym, ap, ap₂, ◌∙◌}
use mathlib.Core.Logic.{◌⊎◌, inl, inr}
use Prim.Native.Nat.{ℕ, suc, ◌+◌, ◌-◌, ◌≤◌, ◌<◌}
use native.Mathlib.Omega.{arith}
use native.Mathlib.Decide.{dec_lt}
use lib.IntN.{pos, negsuc, sub_ℕ, ◌+ℤ◌}
use lib.Ieee.{minus}
use borrow.Author.Tests.{le-ltb, lt-ltb, le-leb, lt-leb}
use Rattle.float.specs.Split.{split_bias, kept_power}

side : (a b : ℕ) → (a < b) ⊎ (b ≤ a)
side a b = of (dec_lt a b)
  where
    of : Dec (a < b) → (a < b) ⊎ (b ≤ a)
    of (yes h) = inl h
    of (no h) = inr (omega arith)

over : (a b : ℕ) → b ≤ a → sub_ℕ a b ≡ pos (a - b)
over a b h = rw (le-ltb a b h)

under : (a b : ℕ) → a < b → sub_ℕ a b ≡ negsuc (b - suc a)
under a b h = rw (lt-ltb a b h)

-- differences are equal where the crossed sums are
pub same_difference : (a b c d : ℕ) → a + d ≡ c + b → sub_ℕ a b ≡ sub_ℕ c d
same_difference a b c d e = of (side a b)
  where
    of : (a < b) ⊎ (b ≤ a) → sub_ℕ a b ≡ sub_ℕ c d
    of (inl h) = under a b h ∙ ap negsuc (omega arith) ∙ sym (under c d (omega arith))
    of (inr h) = over a b h ∙ ap pos (omega arith) ∙ sym (over c d (omega arith))

pub sum_difference : (a b c d : ℕ) → sub_ℕ a b +ℤ sub_ℕ c d ≡ sub_ℕ (a + c) (b + d)
sum_difference a b c d = of (side a b) (side c d)
  where
    of : (a < b) ⊎ (b ≤ a) → (c < d) ⊎ (d ≤ c) → sub_ℕ a b +ℤ sub_ℕ c d ≡ sub_ℕ (a + c) (b + d)
    of (inl h) (inl k) =
        ap₂ ◌+ℤ◌ (under a b h) (under c d k) ∙ ap negsuc (omega arith) ∙ sym (under (a + c) (b + d) (omega arith))
    of (inl h) (inr k) =
        ap₂ ◌+ℤ◌ (under a b h) (over c d k) ∙ same_difference (c - d) (suc (b - suc a)) (a + c) (b + d) (omega arith)
    of (inr h) (inl k) =
        ap₂ ◌+ℤ◌ (over a b h) (under c d k) ∙ same_difference (a - b) (suc (d - suc c)) (a + c) (b + d) (omega arith)
    of (inr h) (inr k) =
        ap₂ ◌+ℤ◌ (over a b h) (over c d k) ∙ ap pos (omega arith) ∙ sym (over (a + c) (b + d) (omega arith))

pub minus_difference : (a b : ℕ) → minus a b ≡ sub_ℕ a b
minus_difference a b = of (side a b)
  where
    of : (a < b) ⊎ (b ≤ a) → minus a b ≡ sub_ℕ a b
    of (inl h) = rw (lt-leb b a h) (sym (under a b h))
    of (inr h) = rw (le-leb b a h) (sym (over a b h))

pub kept_difference : (a b : ℕ) → a ≤ b + split_bias → kept_power (sub_ℕ a b) ≡ b + split_bias - a
kept_difference a b l = of (side a b)
  where
    of : (a < b) ⊎ (b ≤ a) → kept_power (sub_ℕ a b) ≡ b + split_bias - a
    of (inl h) = ap kept_power (under a b h) ∙ omega arith
    of (inr h) = ap kept_power (over a b h) ∙ omega arith
