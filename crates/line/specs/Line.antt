-- A model line: `.model`, a name, a type, then keys with their numbers, in any order. The first fault by its place in
-- the line is told, and a key that is missing last of all.
use Rattle.std.specs.Prelude.{Bool, true, false, not, List, [], ◌∷◌, map, Option, Some, None, ℕ, suc, ◌-◌, eqb, leb, length}
use Rattle.std.specs.Prelude.{take, drop, get_or, set, replicate}
use Rattle.refusal.specs.declared.Refusal.TheVariants.{BadName, BadKey, BadNumber, KeyMissing, BadLine}
use Rattle.refusal.specs.Order.{Verdict, no, yes, refuse_if, and_then}
use Rattle.name.specs.Name.{asked, same}
use Rattle.clip.specs.Numbers.{octave, polarity}
use Rattle.spelling.specs.Bytes.{bytes, space}
use Rattle.words.specs.declared.Span.{Span}
use Rattle.words.specs.Words.{part_of}
use Rattle.words.specs.inner.Passing.{outside}
use Rattle.decimal_read.specs.Text.{word_read}
use Rattle.keys.specs.Keys.{key_count, key_number, defaults, plus_one, minus_one}

-- the words of a line from a place on, in their order
unfoldable pub words_from : List ℕ → ℕ → List (List ℕ)
words_from line at = map (λ (s : Span). part_of line s.start s.end) (outside line at)

-- no space may stand at either end
abbrev pub starts_in_space : List ℕ → Bool
starts_in_space line = eqb (get_or line 0 0) space

abbrev pub ends_in_space : List ℕ → Bool
ends_in_space line = eqb (get_or line (length line - 1) 0) space

-- ---- the first three words

-- the name, the word of the polarity, and the words after the type
pub record Head : Type 0 where
  pub name : List ℕ
  pub sign : ℕ
  pub rest : List (List ℕ)

abbrev pub typed_if : Bool → Bool → List ℕ → List (List ℕ) → Verdict Head
typed_if true p n ws = yes (record { name = n; sign = plus_one; rest = ws })
typed_if false true n ws = yes (record { name = n; sign = minus_one; rest = ws })
typed_if false false n ws = no BadLine

abbrev pub typed : List ℕ → List (List ℕ) → Verdict Head
typed n [] = no BadLine
typed n (t ∷ ws) = typed_if (same t (bytes "npn")) (same t (bytes "pnp")) n ws

abbrev pub named : List (List ℕ) → Verdict Head
named [] = no BadLine
named (n ∷ ws) = refuse_if (not (asked n)) BadName (typed n ws)

abbrev pub headed : List (List ℕ) → Verdict Head
headed [] = no BadLine
headed (w ∷ ws) = refuse_if (not (same w (bytes ".model"))) BadLine (named ws)

unfoldable pub head_of : List ℕ → Verdict Head
head_of line = refuse_if (starts_in_space line) BadLine (headed (words_from line 0))

-- ---- the keys

-- the record's words as they are so far, and which keys were given
pub record Taken : Type 0 where
  pub words : List ℕ
  pub given : List Bool

abbrev pub taken : List ℕ → List Bool → Taken
taken w g = record { words = w; given = g }

-- before any key
abbrev pub none_taken : Taken
none_taken = taken defaults (replicate key_count false)

-- the place of the first `=` of a word; its length where it has none
abbrev pub equals_if : Bool → ℕ → ℕ
equals_if true n = 0
equals_if false n = suc n

unfoldable pub equals_at : List ℕ → ℕ
equals_at [] = 0
equals_at (b ∷ w) = equals_if (eqb b 61) (equals_at w)

-- the key before it, and the text of the number after it
abbrev pub key_of : List ℕ → ℕ
key_of w = key_number (take (equals_at w) w)

abbrev pub number_of : List ℕ → Option ℕ
number_of w = word_read (drop (suc (equals_at w)) w)

abbrev pub with_number : Taken → ℕ → Option ℕ → Verdict Taken
with_number s k (Some x) = yes (taken (set s.words k x) (set s.given k true))
with_number s k None = no BadNumber

-- a word without `=`; a key that is none; one that was given; then its number
unfoldable pub take_key : Taken → List ℕ → Verdict Taken
take_key s w =
    refuse_if (leb (length w) (equals_at w)) BadLine
    (refuse_if (leb key_count (key_of w)) BadKey
    (refuse_if (get_or s.given (key_of w) false) BadKey (with_number s (key_of w) (number_of w))))

unfoldable pub take_keys : Taken → List (List ℕ) → Verdict Taken
take_keys s [] = yes s
take_keys s (w ∷ ws) = and_then (take_key s w) (λ (t : Taken). take_keys t ws)

-- ---- the whole line

-- a card's name, and the words of its record of version 2
pub record Model : Type 0 where
  pub name : List ℕ
  pub words : List ℕ

-- with the polarity of its type
abbrev pub model_of : Head → List ℕ → Model
model_of h words = record { name = h.name; words = set words polarity h.sign }

-- a space at the end, then an octave that is not given
abbrev pub closed : List ℕ → Head → Taken → Verdict Model
closed line h s =
    refuse_if (ends_in_space line) BadLine
    (refuse_if (not (get_or s.given octave false)) KeyMissing
    (yes (model_of h s.words)))

unfoldable pub line_of : List ℕ → Verdict Model
line_of line =
    and_then (head_of line) (λ (h : Head). and_then (take_keys none_taken h.rest) (λ (s : Taken). closed line h s))
