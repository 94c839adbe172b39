-- The octave, a whole number of nanovolts, and the second octave, the whole part of a product.
use Rattle.std.specs.Prelude.{Bool, ◌&&◌, ℕ, leb, Float}
use Rattle.std.specs.Float.{binary64}
use Rattle.std.specs.Float.Ieee.{of_bits, le, whole, to_unsigned}
use Rattle.std.specs.Float.Ieee.Scale.{finite}

-- the least octave and the most, and the most that the second may be, in nanovolts
abbrev pub octave_least : ℕ
octave_least = 10000000

abbrev pub octave_most : ℕ
octave_most = 50000000

abbrev pub second_most : ℕ
second_most = 1000000000

-- the first two as f64
abbrev pub ten_million : Float
ten_million = of_bits binary64 0x4163_12d0_0000_0000

abbrev pub fifty_million : Float
fifty_million = of_bits binary64 0x4187_d784_0000_0000

-- the whole part of a number that is not negative
abbrev pub whole_part : Float → ℕ
whole_part x = to_unsigned 64 x

-- a whole number from 10,000,000 to 50,000,000
abbrev pub octave_good : Float → Bool
octave_good x = le ten_million x && (le x fifty_million && whole binary64 x)

-- finite, and its whole part at most 1,000,000,000
abbrev pub second_good : Float → Bool
second_good y = finite y && leb (whole_part y) second_most
