-- The words of a line: only the space parts them, and spaces at the ends are passed over.
use Rattle.std.specs.Prelude.{Bool, true, false, cond, ◌&&◌, List, [], ◌∷◌, ℕ, suc, ◌+◌, ◌-◌, eqb, leb, ltb, length, take, drop, get_or, set, replicate}
use Rattle.spelling.specs.Bytes.{space}
use Rattle.words.specs.declared.Span.{Span}
use Rattle.words.specs.declared.Words.{Words}

-- the most words that a command has
abbrev pub most_words : ℕ
most_words = 13

-- where a word begins, and the place after its last byte
abbrev pub span : ℕ → ℕ → Span
span a e = record { start = a; end = e }

-- the words in the bytes from the place `at` on; in the midst of a word that began at `start`, or not
unfoldable pub spans_from : Bool → ℕ → ℕ → List ℕ → List Span
spans_from false start at [] = []
spans_from true start at [] = span start at ∷ []
spans_from false start at (b ∷ l) =
    cond (eqb b space) (spans_from false 0 (suc at) l) (spans_from true at (suc at) l)
spans_from true start at (b ∷ l) =
    cond (eqb b space) (span start at ∷ spans_from false 0 (suc at) l) (spans_from true start (suc at) l)

abbrev pub spans_of : List ℕ → List Span
spans_of line = spans_from false 0 0 line

-- no words yet
abbrev pub no_words : Words
no_words = record { spans = replicate most_words (span 0 0); count = 0 }

-- a word more; the first words are kept, and a count above the most says that there are more
abbrev pub keep_if : Bool → Words → Span → Words
keep_if true w s = record { spans = set w.spans w.count s; count = w.count + 1 }
keep_if false w s = record { spans = w.spans; count = suc most_words }

unfoldable pub with_word : Words → Span → Words
with_word w s = keep_if (ltb w.count most_words) w s

unfoldable pub with_words : Words → List Span → Words
with_words w [] = w
with_words w (s ∷ l) = with_words (with_word w s) l

unfoldable pub words_of : List ℕ → Words
words_of line = with_words no_words (spans_of line)

-- the bytes of a line from a place to another; none where it has not so many
abbrev pub part_if : Bool → List ℕ → ℕ → ℕ → List ℕ
part_if true line a e = take (e - a) (drop a line)
part_if false line a e = []

unfoldable pub part_of : List ℕ → ℕ → ℕ → List ℕ
part_of line a e = part_if (leb a e && leb e (length line)) line a e

abbrev pub part_at : List ℕ → Span → List ℕ
part_at line s = part_of line s.start s.end

-- word k, from 0; no bytes where there is no such word
abbrev pub word_at : List ℕ → Words → ℕ → List ℕ
word_at line w k = part_at line (get_or w.spans k (span 0 0))
