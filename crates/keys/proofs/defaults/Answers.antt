-- The words are those that the defaults' texts are read as.
use Rattle.std.proofs.Common.{refl}
use Rattle.std.specs.Float.Ieee.{round, to_bits}
use Rattle.decimal.specs.Decimal.{word_of, value_of}
use Rattle.decimal_read.specs.Text.{word_read, read_of, scanned, figure_of, ended_of, power_after, signed_power, pair_of}
use Rattle.decimal_read.specs.Text.{placed_of}
use Rattle.keys.specs.Keys.{defaults}
use Rattle.keys.proofs.defaults.Goals as goal

pub returns : goal.returns
unfolding defaults word_read read_of scanned figure_of ended_of power_after signed_power pair_of placed_of word_of value_of
    round to_bits
returns c = refl
