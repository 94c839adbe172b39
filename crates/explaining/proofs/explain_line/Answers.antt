-- The pieces one after the other, where the answer is a refusal.
use Rattle.std.proofs.Common.{ℕ, true, false, List, ap, ◌∙◌}
use lib.Dec.{eqb}
use lib.Pointwise.{pointwise}
use Rattle.spelling.specs.Number.{parsed_of}
use Rattle.page.proofs.Pages.{as_bytes, then, write_nothing}
use Rattle.explaining.specs.Sentences.{sentence_of}
use Rattle.explaining.specs.Explanation.{natural_of}
use Rattle.explaining.proofs.Explained.{by_words}
use Rattle.explaining.proofs.explain_line.Goals as goal

pub returns-then-eq : goal.returns-then-eq
returns-then-eq c =
    let said =
    c.sentence.ensures
    ∙ ap sentence_of (c.natural.ensures ∙ ap (λ (b : List ℕ). natural_of (parsed_of b)) c.word-then-eq.ensures) in
    as_bytes (by_words _ true c.words_of-words.ensures c.word.ensures (c.eq.ensures ∙ ap (pointwise eqb c.word.result.now) c.as_slice.ensures) c.if-eq.true)
    (then c.put.ensures
    (then (as_bytes said c.put-then-eq.ensures) (then c.put_where.ensures c.put-then-eq-2.ensures)))

pub returns-else-eq : goal.returns-else-eq
returns-else-eq c = as_bytes (by_words _ false c.words_of-words.ensures c.word.ensures (c.eq.ensures ∙ ap (pointwise eqb c.word.result.now) c.as_slice.ensures) c.if-eq.false) write_nothing
