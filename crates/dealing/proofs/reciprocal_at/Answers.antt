-- `reciprocal_at` reads the numbers worked for an octave.
use native.Mathlib.Omega.{arith}
use Rattle.dealing.proofs.Readings.{number_is, number_after, tick_is}
use Rattle.dealing.proofs.reciprocal_at.Goals as goal

pub returns : goal.returns
returns c =
    let numbers = c.args.numbers.now in
    rw (
      number_is numbers c.args.i c.args.k (omega arith),
      number_after numbers c.args.i c.args.k 1 (omega arith),
      number_after numbers c.args.i c.args.k 2 (omega arith),
      number_after numbers c.args.i c.args.k 3 (omega arith),
      tick_is c.args.ticks.now c.args.i c.args.t (omega arith),
    )
