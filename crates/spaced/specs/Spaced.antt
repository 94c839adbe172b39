-- The lines of as many numbers as there are, each with the newline that ends it.
use Rattle.std.specs.Prelude.{◌≡◌, List, [], ◌∷◌, ◌++◌, ℕ, ◌<◌, ℤ, length, get_or}
use Rattle.sheet.specs.declared.Text.{Text}
use Rattle.sheet.specs.Text.{shown}
use Rattle.sheet.specs.Digits.{decimal_of, signed_digits}
use Rattle.spelling.specs.Bytes.{space, newline, bytes}

-- each written by its digits, a space before each, and the newline
unfoldable pub spaced_line : {A : Type 0} → (A → List ℕ) → List A → List ℕ
spaced_line digits [] = newline ∷ []
spaced_line digits (x ∷ l) = space ∷ (digits x ++ spaced_line digits l)

-- of each of these the text that is made shows its digits
abbrev pub Spells : {A : Type 0} → (A → Text → Type 0) → (A → List ℕ) → List A → Type 0
Spells {A} made digits l =
    (i : ℕ) (none : A) (t : Text) → i < length l → made (get_or l i none) t → shown t ≡ digits (get_or l i none)

-- a transistor's currents
unfoldable pub currents_line : List ℤ → List ℕ
currents_line ticks = bytes "currents" ++ spaced_line signed_digits ticks

-- who names a node, by issue numbers
unfoldable pub who_line : List ℕ → List ℕ
who_line issues = bytes "who" ++ spaced_line decimal_of issues

-- a node summed up: its transistors, their cards, and the largest of its branches
unfoldable pub sum_line : ℕ → ℕ → ℕ → List ℕ
sum_line transistors cards most = bytes "sum" ++ spaced_line decimal_of (transistors ∷ cards ∷ most ∷ [])
