-- The lines that quote what they were given, each with the newline that ends it.
use Rattle.std.specs.Prelude.{List, [], ◌∷◌, ◌++◌, ℕ, take}
use Rattle.spelling.specs.Bytes.{newline, bytes}

-- how many bytes of the first word an error shows
abbrev pub shown_bytes : ℕ
shown_bytes = 32

-- a line that is no command, by its first word
unfoldable pub error_line : List ℕ → List ℕ
error_line first = bytes "error " ++ (take shown_bytes first ++ newline ∷ [])

-- a file that cannot be read
unfoldable pub unreadable_line : List ℕ → List ℕ
unreadable_line path = bytes "error cannot read " ++ (path ++ newline ∷ [])

-- a card's model line
unfoldable pub model_line : List ℕ → List ℕ
model_line line = line ++ newline ∷ []
