-- The smaller of the two is the number held at its limit.
use Rattle.std.proofs.Common.{◌∙◌}
use Rattle.quotients.proofs.Shifts.{min_held}
use Rattle.quotients.proofs.hold.Goals as goal

pub returns : goal.returns
returns c = c.min.ensures ∙ min_held c.args.over c.args.t
