-- What a line says: one of the commands, nothing, or an error.
use Rattle.std.specs.Prelude.{◌≡◌, Bool, true, false, ◌&&◌, ◌||◌, List, Option, Some, None, ℕ, ◌-◌, ◌%◌, eqb, ltb, length}
use Rattle.std.specs.Prelude.{get_or}
use Rattle.hex_bytes.specs.Hex.{spells, pairs_of, hex_if, over_if}
use Rattle.words.specs.declared.Words.{Words}
use Rattle.script.specs.declared.Command.{Command}
use Rattle.verbs.specs.declared.Row.{Row}
use Rattle.verbs.specs.declared.Verb.{Verb}
use Rattle.verbs.specs.declared.Verb.TheVariants.{Nothing, TooLong, Error}
use Rattle.verbs.specs.declared.Wants.{Wants}
use Rattle.verbs.specs.declared.Wants.TheVariants.{Texts, Numbers, Either, Pairs, NameAndHex, Anything}
use Rattle.words.specs.Words.{no_words, words_of, word_at}
use Rattle.numbered.specs.Numbers.{most_numbers, are_numbers, numbers_to}
use Rattle.series.specs.declared.Series.{Series}
use Rattle.series.specs.Series.{series_of}
use Rattle.verbs.specs.Table.{row_named}

-- the most bytes of a line, without the newline that ends it
abbrev pub longest_line : ℕ
longest_line = 4096

-- more bytes than a line has hex digits for
abbrev pub most_bytes : ℕ
most_bytes = 2048

-- the byte that begins a comment, `#`
abbrev pub hash : ℕ
hash = 35

-- a line with that first word is passed over: it has no word, or a comment
abbrev pub passed_over : List ℕ → Bool
passed_over first = eqb (length first) 0 || eqb (get_or first 0 0) hash

-- ---- the command

-- a line with these words says the verb; its last word spells so many bytes
unfoldable pub said : List ℕ → Words → Verb → ℕ → Command
said line w v n =
    record { verb = v; words = w; numbers = numbers_to line w most_numbers; bytes = n; list = None }

abbrev pub verb_if : Bool → Verb → Verb
verb_if true v = v
verb_if false v = Error

-- the numbers of the line are pairs, however many
abbrev pub are_pairs : Option Series → Bool
are_pairs (Some l) = eqb (l.count % 2) 0
are_pairs None = false

-- a line of a list: the whole series of its numbers is kept
unfoldable pub said_pairs : List ℕ → Words → Verb → Command
said_pairs line w v =
    record {
      verb = verb_if (are_pairs (series_of line)) v;
      words = w;
      numbers = numbers_to line w most_numbers;
      bytes = 0;
      list = series_of line;
    }

-- the bytes in hex digits that word 2 spells
unfoldable pub hex_of : List ℕ → Words → Option ℕ
hex_of line w = hex_if (spells (word_at line w 2) most_bytes) (length (pairs_of (word_at line w 2)))

abbrev pub said_hex : List ℕ → Words → Verb → Option ℕ → Command
said_hex line w v (Some n) = said line w v n
said_hex line w v None = said line w Error 0

abbrev pub said_if : Bool → List ℕ → Words → Verb → Command
said_if true line w v = said_hex line w v (hex_of line w)
said_if false line w v = said line w Error 0

-- the line has n words, those after the first numbers
abbrev pub has_numbers : List ℕ → Words → ℕ → Bool
has_numbers line w n = eqb w.count n && are_numbers line w 1 (n - 1)

-- what the line says to a row
unfoldable pub said_to : List ℕ → Words → Verb → Wants → Command
said_to line w v (Texts n) = said line w (verb_if (eqb w.count n) v) 0
said_to line w v (Numbers n) = said line w (verb_if (has_numbers line w n) v) 0
said_to line w v (Either m n) = said line w (verb_if (has_numbers line w m || has_numbers line w n) v) 0
said_to line w v Pairs = said_pairs line w v
said_to line w v NameAndHex = said_if (eqb w.count 3) line w v
said_to line w v Anything = said line w v 0

-- what stands in the lent buffer afterwards: the bytes that are spelled, where the row wants them
abbrev pub spelled_if : Bool → List ℕ → Words → List ℕ → List ℕ
spelled_if true line w old = over_if (spells (word_at line w 2) most_bytes) (pairs_of (word_at line w 2)) old
spelled_if false line w old = old

unfoldable pub spelled_to : List ℕ → Words → Wants → List ℕ → List ℕ
spelled_to line w (Texts n) old = old
spelled_to line w (Numbers n) old = old
spelled_to line w (Either m n) old = old
spelled_to line w Pairs old = old
spelled_to line w NameAndHex old = spelled_if (eqb w.count 3) line w old
spelled_to line w Anything old = old

-- a line with these words that is not passed over says r to the row of that verb, and leaves new in the buffer
pub record SaysTo (line : List ℕ) (w : Words) (v : Verb) (want : Wants) (old : List ℕ) (r : Command)
    (new : List ℕ) : Type 0 where
  pub command : r ≡ said_to line w v want
  pub buffer : new ≡ spelled_to line w want old

-- ---- the whole line: too long, then passed over, then a row's

abbrev pub command_if : Bool → List ℕ → Words → Row → Command
command_if true line w r = said line w Nothing 0
command_if false line w r = said_to line w r.verb r.wants

abbrev pub command_of_words : List ℕ → Words → Command
command_of_words line w = command_if (passed_over (word_at line w 0)) line w (row_named (word_at line w 0))

abbrev pub command_unless : Bool → List ℕ → Command
command_unless true line = said line no_words TooLong 0
command_unless false line = command_of_words line (words_of line)

unfoldable pub command_of : List ℕ → Command
command_of line = command_unless (ltb longest_line (length line)) line

-- and what it leaves in the buffer
abbrev pub buffer_if : Bool → List ℕ → Words → Row → List ℕ → List ℕ
buffer_if true line w r old = old
buffer_if false line w r old = spelled_to line w r.wants old

abbrev pub buffer_unless : Bool → List ℕ → Words → List ℕ → List ℕ
buffer_unless true line w old = old
buffer_unless false line w old = buffer_if (passed_over (word_at line w 0)) line w (row_named (word_at line w 0)) old

unfoldable pub buffer_of : List ℕ → List ℕ → List ℕ
buffer_of line old = buffer_unless (ltb longest_line (length line)) line (words_of line) old

-- the line says r, and leaves new in the lent buffer that held old
pub record Says (line old : List ℕ) (r : Command) (new : List ℕ) : Type 0 where
  pub command : r ≡ command_of line
  pub buffer : new ≡ buffer_of line old
