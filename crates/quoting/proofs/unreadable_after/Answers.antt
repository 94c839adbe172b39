-- The pieces one after the other.
use Rattle.quoting.specs.Quotes.{unreadable_line}
use Rattle.page.proofs.Pages.{then_after}
use Rattle.quoting.proofs.unreadable_after.Goals as goal

pub returns : goal.returns
unfolding unreadable_line
returns c = then_after c.put-start.ensures (then_after c.put-named.ensures c.put.ensures)
