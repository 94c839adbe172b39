-- The number whose bits a word of a record has.
use Rattle.std.specs.Prelude.{Bool, true, false, Option, Some, None, ℕ, Float}
use Rattle.std.specs.Float.{binary64}
use Rattle.std.specs.Float.Ieee.{of_bits}
use Rattle.std.specs.Float.Ieee.Scale.{finite}

abbrev pub real_if : Bool → Float → Option Float
real_if true x = Some x
real_if false x = None

-- the number of a word's bits, where they are those of a finite one
abbrev pub real_of : ℕ → Option Float
real_of w = real_if (finite (of_bits binary64 w)) (of_bits binary64 w)
