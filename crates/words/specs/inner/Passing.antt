-- The next word of a line, and what is left of the line after it. Inner contracts of parting a line.
use Rattle.std.specs.Prelude.{◌≡◌, true, false, Option, Some, None, List, [], ◌∷◌, ℕ, ◌≤◌, ◌<◌, length, drop}
use Rattle.words.specs.declared.Span.{Span}
use Rattle.words.specs.Words.{spans_from}

-- the words from a place on, that place in no word
abbrev pub outside : List ℕ → ℕ → List Span
outside line at = spans_from false 0 at (drop at line)

-- the words from a place on, that place in a word that began at `start`
abbrev pub inside : List ℕ → ℕ → ℕ → List Span
inside line start at = spans_from true start at (drop at line)

-- the first word from `at` on, with bytes of its own within the line, and what is left after it
pub record FirstWord (line : List ℕ) (at : ℕ) (s : Span) : Type 0 where
  pub later : at ≤ s.start
  pub order : s.start < s.end
  pub most : s.end ≤ length line
  pub parted : outside line at ≡ s ∷ outside line s.end

-- the first word from `at` on, where there is one
abbrev pub NextWord : List ℕ → ℕ → Option Span → Type 0
NextWord line at None = outside line at ≡ []
NextWord line at (Some s) = FirstWord line at s
