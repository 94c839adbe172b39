-- `work_out` meets its contract: the outcome of the terms is the rows' own.
use Rattle.std.proofs.Common.{◌∙◌}
use Rattle.rows.specs.Outcome.{outcome_across}
use Rattle.outcome.proofs.RowLaws.{outcome_is}
use Rattle.outcome.proofs.work_out.Goals as goal

pub returns : goal.returns
unfolding outcome_across
returns c = c.outcome.ensures ∙ outcome_is _ _ c.all_terms.ensures
