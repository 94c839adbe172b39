-- `branch` gives to one role and takes from the other.
use Rattle.totals.proofs.Amounts.{branch_gives}
use Rattle.totals.proofs.branch.Goals as goal

pub returns : goal.returns
returns c = branch_gives c.args.a.now c.args.from c.args.to c.args.x c.requires
