-- What a poke writes into the slices, and what is said to it.
use Rattle.std.specs.Prelude.{Bool, true, false, ◌&&◌, List, ℕ, ltb, ℤ, pos, get_or, set}
use Rattle.spelling.specs.Number.{fits_of}
use Rattle.words.specs.declared.Words.{Words}
use Rattle.words.specs.Words.{word_at}
use Rattle.script.specs.declared.Command.{Command}
use Rattle.quoting.specs.Quotes.{error_line}
use Rattle.answers.specs.declared.Answer.TheVariants.{Poked}
use Rattle.answers.specs.Answers.{answer_line}
use Rattle.asks.specs.Numbers.{number_in}
use Rattle.telling.specs.Said.{board_nodes, node_number}

-- both numbers, the last words, are of 64 bits
abbrev pub fit_both : List ℕ → Words → Bool
fit_both line w = fits_of (word_at line w 2) && fits_of (word_at line w 3)

-- where it is allowed, at a node of the board
abbrev pub may_poke : Bool → ℕ → List ℕ → Words → Bool
may_poke allowed node line w = allowed && (ltb node board_nodes && fit_both line w)

abbrev pub node_poked : Command → ℕ
node_poked c = node_number (number_in c.numbers)

abbrev pub pokes : Bool → Command → List ℕ → Bool
pokes allowed c line = may_poke allowed (node_poked c) line c.words

-- the node's voltage and its total, the second number and the third
abbrev pub poked_volts : Bool → Command → List ℤ → List ℤ
poked_volts true c volts = set volts (node_poked c) (get_or c.numbers 1 (pos 0))
poked_volts false c volts = volts

abbrev pub poked_totals : Bool → Command → List ℤ → List ℤ
poked_totals true c totals = set totals (node_poked c) (get_or c.numbers 2 (pos 0))
poked_totals false c totals = totals

-- what may not be poked is no command
abbrev pub poke_said : Bool → Command → List ℕ → List ℕ
poke_said true c line = answer_line Poked
poke_said false c line = error_line (word_at line c.words 0)
