-- The mask, and the first numbers by the version.
use Rattle.std.proofs.Common.{◌≡◌, ℕ, take, sym, ap, ◌∙◌}
use Rattle.page.proofs.Pages.{as_bytes}
use Rattle.clipped.specs.Clipped.{clip_line}
use Rattle.shelving.specs.Shelf.{words_if}
use Rattle.shelving.proofs.put_clipping.Goals.{then-wide, else-wide}
use Rattle.shelving.proofs.put_clipping.Goals as goal

pub returns : goal.returns
returns c =
    let s = c.args in
    let count_is : c.if-wide.count ≡ words_if s.wide =
    elim c.if-wide.branch [
      | then-wide w ↦ w.count-is ∙ ap words_if (sym w.if-wide.true)
      | else-wide w ↦ w.count-is ∙ ap words_if (sym w.if-wide.false)
    ] in
    as_bytes (ap (λ (n : ℕ). clip_line s.clipping.mask s.wide (take n s.clipping.numbers)) count_is) c.clip_line.ensures
