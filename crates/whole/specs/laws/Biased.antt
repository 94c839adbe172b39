-- Signed exponents kept as differences of two whole numbers: laws of `sub_ℕ`.
use Rattle.std.specs.Prelude.{◌≡◌, refl, ◌⊎◌, ℕ, zero, suc, ◌+◌, ◌-◌, ◌≤◌, ◌<◌, pos, negsuc, neg_ℤ, ◌+ℤ◌}
use Rattle.std.proofs.Common.{sym, ap, ap₂, ◌∙◌, inl, inr, not-suc-le-zero, arith, le-ltb, lt-ltb}
use Rattle.std.proofs.Math.Decide.{dec_lt}
use Rattle.std.proofs.Math.IntN.{sub_ℕ}

pub sub_up : (a b : ℕ) → b ≤ a → sub_ℕ a b ≡ pos (a - b)
sub_up a b h = rw (le-ltb a b h)

pub sub_down : (a b : ℕ) → a < b → sub_ℕ a b ≡ negsuc (b - suc a)
sub_down a b h = rw (lt-ltb a b h)

-- a is below b, or not
pub below_or_not : (a b : ℕ) → (a < b) ⊎ (b ≤ a)
below_or_not a b = split (dec_lt a b)
  where
    split : Dec (a < b) → (a < b) ⊎ (b ≤ a)
    split (yes h) = inl h
    split (no h) = inr (omega arith)

-- a difference is known by its crossed sum
pub sub_eq : (a b c d : ℕ) → a + d ≡ c + b → sub_ℕ a b ≡ sub_ℕ c d
sub_eq a b c d e = split (below_or_not a b)
  where
    split : (a < b) ⊎ (b ≤ a) → sub_ℕ a b ≡ sub_ℕ c d
    split (inl h) = sub_down a b h ∙ ap negsuc (omega arith) ∙ sym (sub_down c d (omega arith))
    split (inr h) = sub_up a b h ∙ ap pos (omega arith) ∙ sym (sub_up c d (omega arith))

-- differences add side by side
pub sub_add : (a b c d : ℕ) → sub_ℕ a b +ℤ sub_ℕ c d ≡ sub_ℕ (a + c) (b + d)
sub_add a b c d = split (below_or_not a b) (below_or_not c d)
  where
    split : (a < b) ⊎ (b ≤ a) → (c < d) ⊎ (d ≤ c) → sub_ℕ a b +ℤ sub_ℕ c d ≡ sub_ℕ (a + c) (b + d)
    split (inl h) (inl k) =
        ap₂ ◌+ℤ◌ (sub_down a b h) (sub_down c d k) ∙ ap negsuc (omega arith)
        ∙ sym (sub_down (a + c) (b + d) (omega arith))
    split (inl h) (inr k) =
        ap₂ ◌+ℤ◌ (sub_down a b h) (sub_up c d k) ∙ sub_eq (c - d) (suc (b - suc a)) (a + c) (b + d) (omega arith)
    split (inr h) (inl k) =
        ap₂ ◌+ℤ◌ (sub_up a b h) (sub_down c d k) ∙ sub_eq (a - b) (suc (d - suc c)) (a + c) (b + d) (omega arith)
    split (inr h) (inr k) =
        ap₂ ◌+ℤ◌ (sub_up a b h) (sub_up c d k) ∙ ap pos (omega arith) ∙ sym (sub_up (a + c) (b + d) (omega arith))

-- a number taken from nothing
pub turned : (m : ℕ) → 0 < m → neg_ℤ (pos m) ≡ negsuc (m - 1)
turned zero h = absurd (not-suc-le-zero h)
turned (suc m) h = ap negsuc (omega arith)

pub sub_from_zero : (m : ℕ) → sub_ℕ 0 m ≡ neg_ℤ (pos m)
sub_from_zero zero = refl
sub_from_zero (suc m) = sub_down 0 (suc m) (omega arith) ∙ ap negsuc (omega arith)
