-- The numbers of a command that are handed over.
use Rattle.std.specs.Prelude.{Bool, true, false, Option, Some, None, List, [], ℕ, eqb, ℤ, pos, get_or, take, drop}
use Rattle.words.specs.Words.{most_words}
use Rattle.series.specs.declared.Series.{Series}

-- the first number of a line
abbrev pub number_in : List ℤ → ℤ
number_in v = get_or v 0 (pos 0)

-- the pairs of a list: as many numbers as its line has
abbrev pub pairs_in : Option Series → List ℤ
pairs_in (Some l) = take l.count l.numbers
pairs_in None = []

-- the nodes that a placing names, after its card's number: of all eleven roles where its line has the most words, else
-- of seven
abbrev pub roles_given : Bool → ℕ
roles_given true = 11
roles_given false = 7

abbrev pub nodes_in : List ℤ → ℕ → List ℤ
nodes_in v words = take (roles_given (eqb words most_words)) (drop 1 v)
