-- No polarity, a spare word that is not zero, and the other one.
use Rattle.std.proofs.Common.{eqb-true, sym, ◌∙◌}
use borrow.Author.Tests.{eqb-false}
use Rattle.line_write.proofs.Settled.{not_signed, first_spare, second_spare}
use Rattle.line_write.proofs.is_settled.Goals as goal
use Rattle.line_write.proofs.is_settled.Goals.{then-is_polarity, else-is_polarity}

pub returns-then-word-eq0 : goal.returns-then-word-eq0
returns-then-word-eq0 c =
    elim c.if-is_polarity.branch [
      | then-is_polarity w ↦
          second_spare _ (sym w.if-is_polarity.true ∙ c.is_polarity.ensures) c.word.ensures w.word-then-is_polarity.ensures
          (eqb-true _ _ (sym w.value-is ∙ c.if-word-eq0.true)) c.word-then-word-eq0.ensures
      | else-is_polarity w ↦ absurd (cc)
    ]

pub returns-else-word-eq0 : goal.returns-else-word-eq0
returns-else-word-eq0 c =
    elim c.if-is_polarity.branch [
      | then-is_polarity w ↦
          c.if-word-eq0.false
          ∙ first_spare _ (sym w.if-is_polarity.true ∙ c.is_polarity.ensures) c.word.ensures
          w.word-then-is_polarity.ensures (eqb-false _ _ (sym w.value-is ∙ c.if-word-eq0.false))
      | else-is_polarity w ↦
          c.if-word-eq0.false ∙ not_signed _ (sym w.if-is_polarity.false ∙ c.is_polarity.ensures) c.word.ensures
    ]
