-- `without` sets a digit and turns it over.
use borrow.Author.Rules.{rules}
use Rattle.sets.proofs.Digits.{without_is}
use Rattle.sets.proofs.without.Goals as goal

pub returns : goal.returns
returns c = without_is c.args.set c.args.i (search rules) (search rules)
