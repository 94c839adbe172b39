-- `outcome` works ticks where no row overloads.
use Rattle.std.proofs.Common.{sym, ◌∙◌}
use Rattle.outcome.proofs.RowLaws.{fine}
use Rattle.outcome.proofs.outcome.Goals as goal

pub all_divided-requires : goal.all_divided-requires
all_divided-requires c = fine c.args.x (sym c.judged.ensures ∙ c.in-None.is)
