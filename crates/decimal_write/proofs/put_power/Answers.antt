-- With a minus and without.
use Rattle.std.proofs.Common.{arith, rules}
use Rattle.decimal_write.proofs.Puts.{then, made, power_under, power_over}
use Rattle.decimal_write.proofs.put_power.Goals as goal

pub returns-then-q-lt-NO_POWER : goal.returns-then-q-lt-NO_POWER
returns-then-q-lt-NO_POWER c = (
  omega arith,
  made (then c.put-next.ensures.1 c.put_digits.ensures.1) (power_under c.args.q (search rules)),
)

pub returns : goal.returns
returns c = (omega arith, made c.put_digits-2.ensures.1 (power_over c.args.q (search rules)))
