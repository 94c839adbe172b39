-- Worked numbers: the words of some texts, as the definitions compute them.
use mathlib.Core.Path.{◌≡◌, refl}
use lib.Ieee.{round, to_bits}
use Rattle.spelling.specs.Bytes.{bytes}
use Rattle.decimal.specs.Decimal.{value_of, word_of}
use Rattle.std.specs.Prelude.{Some, None}
use Rattle.decimal_read.specs.Text.{figure_of, pair_of, signed_power, power_after, placed_of, ended_of, scanned, read_of}
use Rattle.decimal_read.specs.Text.{word_read}

half : word_read (bytes ".5") ≡ Some 0x3fe0_0000_0000_0000
unfolding word_read read_of scanned figure_of ended_of power_after placed_of word_of value_of round to_bits
half = refl

five : word_read (bytes "5.") ≡ Some 0x4014_0000_0000_0000
unfolding word_read read_of scanned figure_of ended_of power_after placed_of word_of value_of round to_bits
five = refl

saturation : word_read (bytes "2.2e-17") ≡ Some 0x3c79_5d41_0081_1d0c
unfolding word_read read_of scanned figure_of ended_of power_after signed_power pair_of placed_of word_of value_of round to_bits
saturation = refl

minus_zero : word_read (bytes "-0") ≡ Some 0
unfolding word_read read_of scanned figure_of ended_of power_after placed_of word_of value_of round to_bits
minus_zero = refl

beyond : word_read (bytes "1.0e-22") ≡ None
unfolding word_read read_of scanned figure_of ended_of power_after signed_power pair_of placed_of
beyond = refl

largest : word_read (bytes "999999999999999e22") ≡ Some 0x479e_17b8_4357_6913
unfolding word_read read_of scanned figure_of ended_of power_after signed_power pair_of placed_of word_of value_of round to_bits
largest = refl

sixteen : word_read (bytes "1234567890123456") ≡ None
unfolding word_read read_of scanned figure_of ended_of power_after placed_of
sixteen = refl
