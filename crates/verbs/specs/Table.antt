-- The commands: the word of each, and what the whole line of it has to be.
use Rattle.std.specs.Prelude.{cond, List, [], ◌∷◌, map, ℕ, suc, length, get_or}
use Prim.Native.String.{String}
use Rattle.name.specs.Name.{same}
use Rattle.verbs.specs.declared.Verb.{Verb}
use Rattle.verbs.specs.declared.Verb.TheVariants.{Library, Find, Clip, Load, Record, Place}
use Rattle.verbs.specs.declared.Verb.TheVariants.{Move, Moves, Lift, Withdraw, Lookup, Node, Sheet}
use Rattle.verbs.specs.declared.Verb.TheVariants.{Currents, Who, Sum, Mend, Poke, ModelLine, Model, Error}
use Rattle.verbs.specs.declared.Wants.{Wants}
use Rattle.verbs.specs.declared.Wants.TheVariants.{Texts, Numbers, Either, Pairs, NameAndHex, Anything}
use Rattle.verbs.specs.declared.Row.{Row}
use Rattle.spelling.specs.Bytes.{bytes}

-- the first word of a line, and the row that it names
pub record Entry : Type 0 where
  pub word : List ℕ
  pub row : Row

abbrev row : Verb → Wants → Row
row v w = record { verb = v; wants = w }

abbrev entry : String → Verb → Wants → Entry
entry word v w = record { word = bytes word; row = row v w }

-- each number is how many words a line of the command has, the first counted; a placing has one of two, and a model
-- line however many it likes, since the reader of such lines judges them
abbrev pub table : List Entry
table =
    entry "library" Library (Texts 2)
    ∷ entry "find" Find (Texts 2)
    ∷ entry "clip" Clip (Texts 2)
    ∷ entry "load" Load (Texts 2)
    ∷ entry "record" Record NameAndHex
    ∷ entry "place" Place (Either 9 13)
    ∷ entry "move" Move (Numbers 3)
    ∷ entry "moves" Moves Pairs
    ∷ entry "lift" Lift (Numbers 2)
    ∷ entry "withdraw" Withdraw (Numbers 2)
    ∷ entry "lookup" Lookup (Texts 2)
    ∷ entry "node" Node (Numbers 2)
    ∷ entry "sheet" Sheet (Texts 1)
    ∷ entry "currents" Currents (Numbers 2)
    ∷ entry "who" Who (Numbers 2)
    ∷ entry "sum" Sum (Numbers 2)
    ∷ entry "mend" Mend (Texts 1)
    ∷ entry "poke" Poke (Numbers 4)
    ∷ entry ".model" ModelLine Anything
    ∷ entry "model" Model (Texts 2)
    ∷ []

abbrev pub rows : ℕ
rows = length table

-- the row of a word that is no command: no line is one
abbrev pub no_row : Row
no_row = row Error (Texts 0)

-- the place of the first entry with that word; how many there are, where none has it
unfoldable pub place_in : List ℕ → List Entry → ℕ
place_in w [] = 0
place_in w (e ∷ l) = cond (same w e.word) 0 (suc (place_in w l))

abbrev pub row_list : List Row
row_list = map (λ (e : Entry). e.row) table

abbrev pub row_at : ℕ → Row
row_at i = get_or row_list i no_row

unfoldable pub row_named : List ℕ → Row
row_named w = row_at (place_in w table)
