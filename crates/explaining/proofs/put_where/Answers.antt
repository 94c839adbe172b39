-- The pieces one after the other, where the answer has four words.
use Rattle.std.proofs.Common.{ℕ, List, ap, ◌∙◌}
use borrow.Author.Tests.{eq-eqb, ne_eqb}
use Rattle.spelling.specs.Number.{parsed_of}
use Rattle.page.proofs.Pages.{as_bytes, then, write_nothing}
use Rattle.explaining.specs.Sentences.{ends_of}
use Rattle.explaining.specs.Explanation.{natural_of, where_told}
use Rattle.explaining.proofs.put_where.Goals as goal

pub returns-then-words-eq-WHERE_WORDS : goal.returns-then-words-eq-WHERE_WORDS
unfolding where_told
returns-then-words-eq-WHERE_WORDS c =
    let branch = c.word-branch.ensures in
    let ends =
    c.ends.ensures ∙ ap ends_of (c.natural.ensures ∙ ap (λ (b : List ℕ). natural_of (parsed_of b)) branch) in
    rw (eq-eqb _ _ c.if-words-eq-WHERE_WORDS.true)
    (then c.put.ensures
    (then (as_bytes c.word.ensures c.put-then-words-eq-WHERE_WORDS.ensures)
    (then c.put-then-words-eq-WHERE_WORDS-2.ensures
    (then (as_bytes branch c.put-then-words-eq-WHERE_WORDS-3.ensures)
    (as_bytes ends c.put-then-words-eq-WHERE_WORDS-4.ensures)))))

pub returns-else-words-eq-WHERE_WORDS : goal.returns-else-words-eq-WHERE_WORDS
unfolding where_told
returns-else-words-eq-WHERE_WORDS c = rw (ne_eqb _ _ c.if-words-eq-WHERE_WORDS.false) write_nothing
