-- From the first byte that is no space to the last.
use Rattle.std.proofs.Common.{ap, ◌∙◌}
use Rattle.trimming.specs.Trimmed.{to_last, trimmed}
use Rattle.trimming.proofs.trimmed.Goals as goal

pub returns : goal.returns
unfolding trimmed
returns c = c.to_last.ensures ∙ ap to_last c.from_first.ensures
