-- The raised difference of two kept voltages is the difference of the voltages.
use Rattle.std.specs.Prelude.{◌≡◌, ◌⊎◌, ℕ, ◌+◌, ◌-◌, ◌*◌, ◌≤◌, ◌<◌, ℤ, pos, negsuc, neg_ℤ, ◌+ℤ◌, ◌-ℤ◌}
use Rattle.std.proofs.Common.{sym, ap, ◌∙◌, inl, inr, arith}
use Rattle.std.proofs.Math.IntN.{sub_ℕ}
use Rattle.whole.specs.laws.Biased.{sub_up, sub_down, sub_eq, sub_add, below_or_not, turned}
use Rattle.volts.specs.Volts.{volts_most, span, given_back, across_of}

-- a difference turned round
pub neg_sub : (a b : ℕ) → neg_ℤ (sub_ℕ a b) ≡ sub_ℕ b a
neg_sub a b = go (below_or_not a b) (below_or_not b a)
  where
    same_none : (m n : ℕ) → n ≤ m → m ≤ n → m - n ≡ 0
    same_none m n h k = omega arith

    go : (a < b) ⊎ (b ≤ a) → (b < a) ⊎ (a ≤ b) → neg_ℤ (sub_ℕ a b) ≡ sub_ℕ b a
    go (inl h) k = ap neg_ℤ (sub_down a b h) ∙ ap pos (omega arith) ∙ sym (sub_up b a (omega arith))
    go (inr h) (inl k) =
        ap neg_ℤ (sub_up a b h) ∙ turned (a - b) (omega arith) ∙ ap negsuc (omega arith) ∙ sym (sub_down b a k)
    go (inr h) (inr k) =
        ap neg_ℤ (sub_up a b h ∙ ap pos (same_none a b h k)) ∙ sym (sub_up b a k ∙ ap pos (same_none b a k h))

pub across_is : (a b : ℕ) → b ≤ span → sub_ℕ (across_of a b) span ≡ given_back a -ℤ given_back b
across_is a b h =
    sub_eq (across_of a b) span (a + volts_most) (volts_most + b) (omega arith)
    ∙ sym (sub_add a volts_most volts_most b)
    ∙ ap (λ (z : ℤ). given_back a +ℤ z) (sym (neg_sub b volts_most))

-- and of two near ones within twice the span
pub across_near : (a b : ℕ) → a ≤ span → across_of a b ≤ 2 * span
across_near a b h = omega arith
