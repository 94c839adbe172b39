-- The bytes of a text that is written out; each of its characters is one byte.
use Rattle.std.specs.Prelude.{List, [], ◌∷◌, ℕ}
use Prim.Native.Char.{code}
use Prim.Native.String as string
use Prim.Native.String.{String}

abbrev pub bytes : String → List ℕ
bytes string.[] = []
bytes (string.◌∷◌ c s) = code c ∷ bytes s

-- two that are often named
abbrev pub space : ℕ
space = 32

abbrev pub newline : ℕ
newline = 10
