-- Both operands are exact, so that what is returned is the fraction rounded once.
use Rattle.std.proofs.Common.{rules, ◌∙◌}
use Rattle.decimal.proofs.Exact.{times_is}
use Rattle.decimal.proofs.rounded.Goals as goal

pub returns : goal.returns
returns c = c.times.ensures ∙ times_is c.args.d c.args.q (search rules) (search rules)
