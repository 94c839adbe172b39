-- The last digit after those before it, of which there is one less.
use Rattle.std.proofs.Common.{arith, rules}
use Rattle.decimal_write.proofs.Puts.{then, made, last_put, more_put}
use Rattle.decimal_write.proofs.+put_digits.Goals as goal

pub returns-then-d-lt10 : goal.returns-then-d-lt10
returns-then-d-lt10 t c = (
  omega arith,
  made c.put.ensures.1 (last_put c.args.k c.args.d (search rules) (search rules)),
)

pub returns : goal.returns
returns t c = (
  omega arith,
  made (then c.put_digits-next.ensures.1 c.put-2.ensures.1) (more_put c.args.k c.args.d (search rules) (search rules)),
)
