-- The marks by which a name that stands twice is looked for: a binary digit each, many of them in a word.
use Rattle.std.specs.Prelude.{ℕ, ◌+◌, ◌/◌, ◌%◌, ◌^◌, Bool, List, ◌==◌, bit_or, slice_index, slice_set}

-- how many marks the search for a name that stands twice keeps
abbrev pub slots : ℕ
slots = 4093

-- the mark of a name, by its two words
abbrev pub slot_of : ℕ → ℕ → ℕ
slot_of low high = (low + high) % 2 ^ 64 % slots

-- how many marks stand in a word, and in how many words all of them
abbrev pub digits : ℕ
digits = 64

abbrev pub mark_words : ℕ
mark_words = 64

-- the mark k has been made
abbrev pub made : List ℕ → ℕ → Bool
made marks k = slice_index marks (k / digits) / 2 ^ (k % digits) % 2 == 1

-- the marks with the mark k made
abbrev pub with_mark : List ℕ → ℕ → List ℕ
with_mark marks k = slice_set marks (k / digits) (bit_or (slice_index marks (k / digits)) (2 ^ (k % digits)))
