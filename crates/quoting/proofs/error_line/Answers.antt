-- The pieces one after the other.
use Rattle.std.proofs.Common.{ℕ, ap, ◌∙◌, take}
use Rattle.std.proofs.lemmas.List.{take_min}
use Rattle.quoting.specs.Quotes.{shown_bytes, error_line}
use Rattle.page.proofs.Pages.{as_bytes, then}
use Rattle.quoting.proofs.error_line.Goals as goal

pub returns : goal.returns
unfolding error_line
returns g c =
    let first = c.args.first.now in
    let shown = ap (λ (n : ℕ). take n first) c.min.ensures ∙ take_min shown_bytes first in
    then c.put.ensures (then (as_bytes shown c.put-2.ensures) c.put-3.ensures)
