-- `split_at` reads a value's two numbers.
use native.Mathlib.Omega.{arith}
use Rattle.dealing.proofs.Readings.{number_is, power_is}
use Rattle.dealing.proofs.split_at.Goals as goal

pub returns : goal.returns
returns c =
    rw (
      number_is c.args.numbers.now c.args.i c.args.k (omega arith),
      power_is c.args.powers.now c.args.i c.args.k (omega arith),
    )
