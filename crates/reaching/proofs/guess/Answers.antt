-- A finite size is a number's.
use Rattle.std.proofs.Common.{rules}
use Rattle.decimal.proofs.Exact.{number_bits}
use Rattle.reaching.proofs.guess.Goals as goal

pub float_from_bits-w : goal.float_from_bits-w
float_from_bits-w c = number_bits c.args.w (search rules)
