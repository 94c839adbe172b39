-- The form of a library: a header, the names, the records. Numbers are little-endian, and a version says how wide a
-- record is.
use Rattle.std.specs.Prelude.{Bool, cond, ◌&&◌, List, [], ◌∷◌, ◌++◌, map, ℕ, ◌+◌, ◌*◌, eqb, leb, ltb, length, take, drop}
use Rattle.bytes_le.specs.Le.{word_bytes, le, le_at, bytes_of}
use Rattle.roll.specs.Directory.{name_bytes, cut, names_held}

-- the bytes of the header
abbrev pub header_bytes : ℕ
header_bytes = 16

-- the most cards that a library holds
abbrev pub most_cards : ℕ
most_cards = 256

-- the words of a record of each version: sixteen in version 1, twenty-four in version 2; no other is known
unfoldable pub words_of : ℕ → ℕ
words_of v = cond (eqb v 1) 16 (cond (eqb v 2) 24 0)

-- no version's record has more words than this, so that every length fits
abbrev pub most_words : ℕ
most_words = 24

-- where the records of n cards start, and where those of k words each end
abbrev pub records_at : ℕ → ℕ
records_at n = header_bytes + name_bytes * n

abbrev pub whole_of : ℕ → ℕ → ℕ
whole_of k n = records_at n + word_bytes * (k * n)

-- the header's numbers: the version in bytes 0-1, the count of cards in 2-3, the directory's offset in 4-7, the
-- records' in 8-11, the whole length in 12-15
abbrev pub version : List ℕ → ℕ
version s = le_at 2 s 0

abbrev pub count : List ℕ → ℕ
count s = le_at 2 s 2

abbrev pub directory_offset : List ℕ → ℕ
directory_offset s = le_at 4 s 4

abbrev pub records_offset : List ℕ → ℕ
records_offset s = le_at 4 s 8

abbrev pub whole_length : List ℕ → ℕ
whole_length s = le_at 4 s 12

-- a version v that is known, a count n that is not too high, the directory after the header, the records after it,
-- the whole length, and that very length l
unfoldable pub agree : ℕ → ℕ → ℕ → ℕ → ℕ → ℕ → Bool
agree v n directory records whole l =
    ltb 0 (words_of v)
    && (leb n most_cards
    && (eqb directory header_bytes
    && (eqb records (records_at n) && (eqb whole (whole_of (words_of v) n) && eqb l (whole_of (words_of v) n)))))

abbrev pub headed : List ℕ → Bool
headed s = agree (version s) (count s) (directory_offset s) (records_offset s) (whole_length s) (length s)

-- the bytes of the names, and of the records
abbrev pub directory : List ℕ → List ℕ
directory s = take (name_bytes * count s) (drop header_bytes s)

abbrev pub records : List ℕ → List ℕ
records s = drop (records_at (count s)) s

-- the words that bytes spell
abbrev pub words_in : List ℕ → List ℕ
words_in s = map le (cut word_bytes s)

-- the bytes of words
abbrev pub bytes_of_all : List ℕ → List ℕ
bytes_of_all [] = []
bytes_of_all (x ∷ l) = bytes_of word_bytes x ++ bytes_of_all l

-- the header of n cards in version v
unfoldable pub header_of : ℕ → ℕ → List ℕ
header_of v n =
    bytes_of 2 v ++ bytes_of 2 n ++ bytes_of 4 header_bytes ++ bytes_of 4 (records_at n) ++ bytes_of 4 (whole_of (words_of v) n)

-- the library of version v with these names and words
abbrev pub library_of : ℕ → List ℕ → List ℕ → List ℕ
library_of v names words = header_of v (names_held names) ++ names ++ bytes_of_all words

-- names and words for n cards of a version that is known, n not too high
unfoldable pub offered : ℕ → List ℕ → List ℕ → Bool
offered v names words =
    ltb 0 (words_of v)
    && (eqb (length names) (name_bytes * names_held names)
    && (leb (names_held names) most_cards && eqb (length words) (words_of v * names_held names)))
