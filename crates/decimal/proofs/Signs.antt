-- The sign before a number: where there are digits it is added to the word of their size, and zero is never below zero.
use mathlib.Core.Path.{◌≡◌, sym, ap, ap₂, ◌∙◌}
use mathlib.Core.Bool.{Bool, true, false, cond, ◌&&◌}
use Prim.Native.Nat.{ℕ, ◌+◌, ◌≤◌, ◌<◌}
use native.Mathlib.Nat.{zero-add}
use native.Mathlib.Omega.{arith}
use lib.Dec.{ltb}
use borrow.Author.Tests.{lt-ltb, le-ltb}
use Rattle.decimal.specs.Decimal.{digits_end, sign_weight, size_bits, word_of}
use Rattle.decimal.proofs.Order.{word_is}

module _ (minus : Bool) (d q s : ℕ) (h : d < digits_end) (l : q < 45) (e : s ≡ size_bits d q) where
  pub word_minus : minus ≡ true → 0 < d → sign_weight + s ≡ word_of minus d q
  word_minus m z =
      ap (λ (x : ℕ). sign_weight + x) e
      ∙ sym (word_is minus d q h l
      ∙ ap₂ (λ (x y : Bool). cond (x && y) sign_weight 0 + size_bits d q) m (lt-ltb 0 d z))

  pub word_zero : d ≤ 0 → s ≡ word_of minus d q
  word_zero z =
      e
      ∙ sym (word_is minus d q h l
      ∙ ap (λ (y : Bool). cond (minus && y) sign_weight 0 + size_bits d q) (le-ltb 0 d z) ∙ none minus)
    where
      none : (b : Bool) → cond (b && false) sign_weight 0 + size_bits d q ≡ size_bits d q
      none true = omega arith
      none false = omega arith

  pub word_plain : minus ≡ false → s ≡ word_of minus d q
  word_plain m =
      e ∙ sym (zero-add (size_bits d q))
      ∙ sym (word_is minus d q h l ∙ ap (λ (x : Bool). cond (x && ltb 0 d) sign_weight 0 + size_bits d q) m)
