-- The mask of a listing line, from what clipping and judging a record give.
use mathlib.Core.Path.{◌≡◌}
use mathlib.Core.List.{List, ◌∷◌}
use Prim.Native.Nat.{ℕ}
use Rattle.refusal.specs.Order.{number_told}
use Rattle.clip.specs.Record.{is_wide}
use Rattle.clip.specs.Clip.{mask_of}
use Rattle.card.specs.Judge.{judge_of}
use Rattle.sheet.specs.declared.Text.{Text}
use Rattle.sheet.specs.Text.{Adds}
use Rattle.sheet.specs.Digits.{hex_digits, decimal_of, mask_digits}
use Rattle.spelling.specs.Bytes.{space}
use Rattle.listed.specs.Listed.{listed_mask}

module _ {t r : Text} {n : ℕ} (s : List ℕ) (e : n ≡ number_told (judge_of s)) where
  pub mask_listed : {m d k : ℕ} → k ≡ mask_of s → m ≡ listed_mask n k → d ≡ mask_digits (is_wide s)
      → Adds t (hex_digits d m) r
      → Adds t (hex_digits (mask_digits (is_wide s)) (listed_mask (number_told (judge_of s)) (mask_of s))) r
  mask_listed f g h a = rw (h, g, e, f) at a

  pub number_listed : Adds t (space ∷ decimal_of n) r → Adds t (space ∷ decimal_of (number_told (judge_of s))) r
  number_listed a = rw e at a
