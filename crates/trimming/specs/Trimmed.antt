-- A line without the spaces at its ends; those between its words stay.
use Rattle.std.specs.Prelude.{cond, List, [], ◌∷◌, ℕ, eqb}
use Rattle.spelling.specs.Bytes.{space}

-- from the first byte on that is no space
unfoldable pub from_first : List ℕ → List ℕ
from_first [] = []
from_first (b ∷ l) = cond (eqb b space) (from_first l) (b ∷ l)

-- a byte before what is kept: a space is kept only before something
abbrev pub before : ℕ → List ℕ → List ℕ
before b [] = cond (eqb b space) [] (b ∷ [])
before b (c ∷ l) = b ∷ c ∷ l

-- to the last byte that is no space
unfoldable pub to_last : List ℕ → List ℕ
to_last [] = []
to_last (b ∷ l) = before b (to_last l)

unfoldable pub trimmed : List ℕ → List ℕ
trimmed line = to_last (from_first line)
