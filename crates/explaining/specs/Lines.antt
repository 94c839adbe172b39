-- The lines of a text, by their numbers, from 0.
use Rattle.std.specs.Prelude.{cond, List, [], ◌∷◌, ℕ, zero, suc, eqb, take, drop}
use Rattle.spelling.specs.Bytes.{newline}

-- how many bytes stand before the first newline; all, where there is none
abbrev pub line_length : List ℕ → ℕ
line_length [] = 0
line_length (b ∷ l) = cond (eqb b newline) 0 (suc (line_length l))

-- a line without its newline; no bytes where there are not so many lines
unfoldable pub line_at : ℕ → List ℕ → List ℕ
line_at zero text = take (line_length text) text
line_at (suc k) text = line_at k (drop (suc (line_length text)) text)
