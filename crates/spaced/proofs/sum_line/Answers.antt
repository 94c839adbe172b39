-- The word, and the numbers after it.
use Rattle.std.proofs.Common.{ap, ◌∙◌}
use Rattle.sheet.specs.Text.{shown}
use Rattle.sheet.specs.laws.LinesFit.{decimal_whole}
use Rattle.spaced.specs.Spaced.{sum_line}
use Rattle.page.proofs.Pages.{then}
use Rattle.spaced.proofs.sum_line.Goals as goal

pub returns : goal.returns
unfolding sum_line
returns c = then c.put.ensures (c.put_each.ensures _ (λ i none t h m. ap shown m ∙ decimal_whole _))
