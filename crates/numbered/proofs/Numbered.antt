-- The words of a line as numbers: whether all are, and their values.
use mathlib.Core.Path.{◌≡◌, refl, ap, ap₂, ◌∙◌}
use mathlib.Core.Bool.{◌&&◌}
use mathlib.Core.List.{List}
use Prim.Native.Nat.{ℕ, zero, suc, ◌+◌}
use native.Mathlib.Numerals.{add-one}
use lib.IntN.{ℤ, pos}
use lib.ListN.{set}
use Rattle.std.specs.Prelude.{Option, Some, None}
use Rattle.std.specs.List.{list_all, range_with_len}
use Rattle.std.specs.Option.{is_some, unwrap_or}
use Rattle.spelling.specs.Number.{parsed_of}
use Rattle.words.specs.declared.Words.{Words}
use Rattle.words.specs.Words.{word_at}
use Rattle.numbered.specs.Numbers.{is_number, value_of, are_numbers, numbers_to}

-- a number is told by std's words
some_number : (o : Option ℤ) → is_some o ≡ is_number o
some_number (Some z) = refl
some_number None = refl

unwrapped : (o : Option ℤ) → unwrap_or o (pos 0) ≡ value_of o
unwrapped (Some z) = refl
unwrapped None = refl

module _ {o : Option ℤ} {s w : List ℕ} (e : o ≡ parsed_of s) (f : s ≡ w) where
  of_word : o ≡ parsed_of w
  of_word = e ∙ ap parsed_of f

  pub value_told : (z : ℤ) → z ≡ unwrap_or o (pos 0) → z ≡ value_of (parsed_of w)
  value_told z g = g ∙ unwrapped o ∙ ap value_of of_word

-- each of m words from word k on
pub all_told : (line : List ℕ) (w : Words) (k m : ℕ)
    → list_all (λ (i : ℕ). is_some (parsed_of (word_at line w i))) (range_with_len k m) ≡ are_numbers line w k m
unfolding are_numbers
all_told line w k zero = refl
all_told line w k (suc m) =
    ap₂ ◌&&◌ (some_number (parsed_of (word_at line w k)))
    (ap (λ (i : ℕ). list_all (λ (i : ℕ). is_some (parsed_of (word_at line w i))) (range_with_len i m)) (add-one k)
    ∙ all_told line w (suc k) m)

pub value_more : (line : List ℕ) (w : Words) (k : ℕ) (l : List ℤ) (z : ℤ) → l ≡ numbers_to line w k
    → z ≡ value_of (parsed_of (word_at line w (k + 1))) → set l k z ≡ numbers_to line w (k + 1)
unfolding numbers_to
value_more line w k l z e f = rw (e, f) (simp add-one)
