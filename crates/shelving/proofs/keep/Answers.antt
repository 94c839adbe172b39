-- As many bytes as have room.
use Rattle.std.proofs.Common.{ℕ, List, ap, ◌∙◌, take}
use Rattle.std.proofs.lemmas.List.{take_min}
use Rattle.bytes_le.specs.Buffer.{over}
use Rattle.shelving.specs.Shelf.{shelf_bytes, kept_over}
use Rattle.shelving.proofs.keep.Goals as goal

pub returns : goal.returns
unfolding kept_over
returns c =
    let bytes = c.args.bytes.now in
    let first = ap (λ (n : ℕ). take n bytes) c.min.ensures ∙ take_min shelf_bytes bytes in
    c.copy.ensures ∙ ap (λ (l : List ℕ). over l c.args.shelf.now) first
