-- The span of the word, or the empty one, and the bytes that it spans.
use Rattle.std.proofs.Common.{◌≡◌, ◌∙◌, get_or, Bor, ℕ, List, ap, ap₂}
use Rattle.words.specs.Words.{span, part_at}
use Rattle.words.proofs.Parts.{cut, held_or}
use Rattle.words.proofs.word.Goals as goal

pub returns : goal.returns
returns c =
    let held : c.unwrap_or_default-start.result ≡ get_or c.args.words.spans c.args.k (span 0 0) =
    held_or c.args.words.spans c.args.k (span 0 0) _ _ (λ p. ap₂ span p.0 p.1) c.get.result c.get.ensures.lookup.3
    (rw c.copied.ensures at c.unwrap_or_default-start.ensures) in
    cut (λ (x : Bor (List ℕ)). x.now) c.args.line.now c.unwrap_or_default-start.result c.unwrap_or_default.result _
    (λ p. p) c.get-2.result c.get-2.ensures.lookup.0 c.unwrap_or_default.ensures
    ∙ ap (part_at c.args.line.now) held
