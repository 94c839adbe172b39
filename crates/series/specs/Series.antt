-- The words of a line after its first, as numbers: whether all are, how many they are, and the first of them.
use Rattle.std.specs.Prelude.{Bool, true, false, ◌&&◌, List, [], ◌∷◌, Option, Some, None, ℕ, suc, ℤ, pos, length, set, replicate}
use Rattle.spelling.specs.Number.{parsed_of}
use Rattle.words.specs.declared.Span.{Span}
use Rattle.words.specs.Words.{spans_of, part_of}
use Rattle.numbered.specs.Numbers.{is_number, value_of}
use Rattle.series.specs.declared.Series.{Series}

-- room for one pair more than a list may have
abbrev pub room : ℕ
room = 66

abbrev pub no_numbers : List ℤ
no_numbers = replicate room (pos 0)

-- the words after the first
abbrev pub after_first : List Span → List Span
after_first [] = []
after_first (s ∷ l) = l

abbrev pub parsed_in : List ℕ → Span → Option ℤ
parsed_in line s = parsed_of (part_of line s.start s.end)

-- every one of the words is a number
unfoldable pub all_numbers : List ℕ → List Span → Bool
all_numbers line [] = true
all_numbers line (s ∷ l) = is_number (parsed_in line s) && all_numbers line l

-- the words' numbers written from place n on, as far as there is room
unfoldable pub written_from : List ℕ → List Span → ℕ → List ℤ → List ℤ
written_from line [] n list = list
written_from line (s ∷ l) n list = written_from line l (suc n) (set list n (value_of (parsed_in line s)))

abbrev pub series_if : Bool → List ℕ → List Span → Option Series
series_if true line l = Some (record { count = length l; numbers = written_from line l 0 no_numbers })
series_if false line l = None

abbrev pub series_words : List ℕ → List Span → Option Series
series_words line l = series_if (all_numbers line l) line l

unfoldable pub series_of : List ℕ → Option Series
series_of line = series_words line (after_first (spans_of line))
