-- A worked value has no minus sign, so that its split, which keeps the size alone, loses none.
use Rattle.std.specs.Prelude.{Bool, true, not, T, Float}
use Rattle.std.specs.Float.{nan, inf, fin}

abbrev pub unsigned : Float → Bool
unsigned nan = true
unsigned (inf s) = not s
unsigned (fin s m e) = not s

abbrev pub Unsigned : Float → Type 0
Unsigned x = T (unsigned x)
