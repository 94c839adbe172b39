-- The word, and the numbers after it.
use Rattle.std.proofs.Common.{ap, ◌∙◌}
use Rattle.sheet.specs.Text.{shown}
use Rattle.sheet.specs.laws.LinesFit.{signed_whole}
use Rattle.spaced.specs.Spaced.{currents_line}
use Rattle.page.proofs.Pages.{then}
use Rattle.spaced.proofs.currents_line.Goals as goal

pub returns : goal.returns
unfolding currents_line
returns c = then c.put.ensures (c.put_each.ensures _ (λ i none t h m. ap shown m ∙ signed_whole _))
