-- `with` sets a digit, whether it was set or not.
use borrow.Author.Rules.{rules}
use Rattle.sets.proofs.Digits.{with_is}
use Rattle.sets.proofs.with.Goals as goal

pub returns : goal.returns
returns c = with_is c.args.set c.args.i (search rules) (search rules)
