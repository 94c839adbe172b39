-- The table is the list of its words.
use Rattle.std.proofs.Common.{refl}
use Rattle.std.specs.Float.Ieee.{of_bits}
use Rattle.decimal.specs.Decimal.{powers_of_ten}
use Rattle.decimal.proofs.tens.Goals as goal

pub invariant_of-result : goal.invariant_of-result
unfolding of_bits powers_of_ten
invariant_of-result c = record { value = refl }
