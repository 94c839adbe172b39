-- The line, and the newline after it.
use Rattle.quoting.specs.Quotes.{model_line}
use Rattle.page.proofs.Pages.{then_after}
use Rattle.quoting.proofs.model_after.Goals as goal

pub returns : goal.returns
unfolding model_line
returns c = then_after c.put-ended.ensures c.put.ensures
