-- Lines and what they say: the protocol's cases, computed.
use Rattle.std.specs.Prelude.{◌≡◌, refl, List, [], ◌∷◌, map, ℕ, ◌<◌, pos, negsuc, length, replicate}
use Prim.Native.String.{String}
use Rattle.std.proofs.Common.{lt-ltb}
use Rattle.spelling.specs.Number.{parsed_of, parsed_with, all_digits, decimal_from}
use Rattle.hex_bytes.specs.Hex.{spells, all_pairs, pairs_of}
use Rattle.verbs.specs.declared.Verb.{Verb}
use Rattle.verbs.specs.declared.Verb.TheVariants.{Record, Place, Moves, Lift, Withdraw, Sheet, ModelLine, Model}
use Rattle.verbs.specs.declared.Verb.TheVariants.{Nothing, TooLong, Error}
use Rattle.spelling.specs.Bytes.{bytes}
use Rattle.words.specs.Words.{spans_from, with_word, with_words, words_of, part_of}
use Rattle.verbs.specs.Table.{place_in, row_named}
use Rattle.numbered.specs.Numbers.{are_numbers, numbers_to}
use Rattle.series.specs.Series.{all_numbers, written_from, series_of}
use Rattle.script.specs.Command.{longest_line, said, said_pairs, hex_of, said_to, command_of}

-- too long before anything else
pub too_long : (line : List ℕ) → longest_line < length line → (command_of line).verb ≡ TooLong
unfolding command_of said
too_long line h = rw (lt-ltb longest_line (length line) h)

abbrev verb_of : String → Verb
verb_of line = (command_of (bytes line)).verb

-- blank, a comment, two verbs and what is none of them: a tab parts no words, a minus alone is no number, a word too
-- many, half a byte; then bytes, no bytes, a line of one word, and a word that only begins like a command's; lists of
-- no pair and of two, an odd one, and one with a word that is no number; placings on seven nodes and on eleven, on
-- eight, and on eleven of which one is no number; model lines, however many words they have, and the model of a name,
-- of none and of two
pub said_verbs : map verb_of
    ("   "
    ∷ "  # lift 1"
    ∷ "lift 1"
    ∷ " withdraw   1 "
    ∷ "lift\t1"
    ∷ "lift -"
    ∷ "lift 1 2"
    ∷ "record A 0"
    ∷ "record A 0f"
    ∷ "record A -"
    ∷ "sheet"
    ∷ "lifts 1"
    ∷ "moves"
    ∷ "moves  3 -5   3 5"
    ∷ "moves 3 5 3"
    ∷ "moves 3 x"
    ∷ "place 1 0 1 1 2 2 2 3"
    ∷ "place 1 0 1 1 2 2 2 3 4 5 6 7"
    ∷ "place 1 0 1 1 2 2 2 3 4"
    ∷ "place 1 0 1 1 2 2 2 3 4 5 6 x"
    ∷ " .model a npn octave=1 "
    ∷ ".model"
    ∷ "model a"
    ∷ "model"
    ∷ "model a b"
    ∷ [])
    ≡ Nothing ∷ Nothing ∷ Lift ∷ Withdraw ∷ Error ∷ Error ∷ Error ∷ Error ∷ Record ∷ Record ∷ Sheet ∷ Error
    ∷ Moves ∷ Moves ∷ Error ∷ Error ∷ Place ∷ Place ∷ Error ∷ Error ∷ ModelLine ∷ ModelLine ∷ Model ∷ Error ∷ Error
    ∷ []
unfolding spans_from with_word with_words words_of part_of parsed_of parsed_with all_digits decimal_from spells all_pairs pairs_of
    place_in row_named are_numbers numbers_to all_numbers written_from series_of said said_pairs hex_of said_to command_of
said_verbs = refl

-- numbers, with spaces wherever they may be
pub said_numbers : (command_of (bytes "  move  3   -250000 ")).numbers
    ≡ pos 3 ∷ negsuc 249999 ∷ replicate 10 (pos 0)
unfolding spans_from with_word with_words words_of part_of parsed_of parsed_with all_digits decimal_from place_in row_named
    are_numbers numbers_to said said_to command_of
said_numbers = refl
