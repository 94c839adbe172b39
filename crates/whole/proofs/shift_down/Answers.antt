-- A shift by 63 or more leaves nothing.
use Rattle.std.proofs.Common.{◌≡◌, ◌⊎◌, inl, inr, ◌∙◌, ap, ℕ, ◌/◌, ◌^◌, ◌<◌, ◌≤◌, min, arith}
use Rattle.whole.specs.Signed.{signed_span}
use Rattle.whole.specs.laws.Biased.{below_or_not}
use Rattle.whole.proofs.Shifts.{down_far}
use Rattle.whole.proofs.shift_down.Goals as goal

held : (x s : ℕ) → x < signed_span → x / 2 ^ min s 63 ≡ x / 2 ^ s
held x s h = split (below_or_not s 63)
  where
    split : (s < 63) ⊎ (63 ≤ s) → x / 2 ^ min s 63 ≡ x / 2 ^ s
    split (inl l) = let e : min s 63 ≡ s = omega arith in ap (λ (k : ℕ). x / 2 ^ k) e
    split (inr l) = let e : min s 63 ≡ 63 = omega arith in ap (λ (k : ℕ). x / 2 ^ k) e ∙ down_far x s h l

pub returns : goal.returns
returns c = ap (λ (k : ℕ). c.args.x / 2 ^ k) c.min.ensures ∙ held c.args.x c.args.s c.requires
