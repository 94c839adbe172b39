-- What was rounded is a number, so that it has a word.
use Rattle.decimal.specs.Decimal.{size_bits}
use Rattle.decimal.proofs.Exact.{plain_number}
use Rattle.decimal.proofs.size_bits.Goals as goal

pub float_to_bits-result : goal.float_to_bits-result
float_to_bits-result c = rw c.rounded.ensures (plain_number c.args.d c.args.q)

pub returns : goal.returns
unfolding size_bits
returns c = rw c.rounded.ensures
