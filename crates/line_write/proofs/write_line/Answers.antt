-- The tests in their order, and a card that passes them.
use Rattle.std.proofs.Common.{sym, ◌∙◌}
use Rattle.line_write.proofs.Lines.{refused_leaves, same_verdict, asked_few, not_wide, not_named, not_settled}
use Rattle.line_write.proofs.Lines.{good_card}
use Rattle.line_write.proofs.write_line.Goals as goal

pub returns-then-not-is_wide : goal.returns-then-not-is_wide
returns-then-not-is_wide c =
    let a = c.args in
    refused_leaves _
    (not_wide a.name.now a.rec.now a.line.now (sym c.if-not-is_wide.true ∙ c.is_wide.ensures))

pub returns-then-not-is_asked : goal.returns-then-not-is_asked
returns-then-not-is_asked c =
    let a = c.args in
    refused_leaves _
    (not_named a.name.now a.rec.now a.line.now (sym c.if-not-is_wide.false ∙ c.is_wide.ensures)
    (sym c.if-not-is_asked.true ∙ c.is_asked.ensures))

pub returns-then-not-is_settled : goal.returns-then-not-is_settled
returns-then-not-is_settled c =
    let a = c.args in
    refused_leaves _
    (not_settled a.name.now a.rec.now a.line.now (sym c.if-not-is_wide.false ∙ c.is_wide.ensures)
    (sym c.if-not-is_asked.false ∙ c.is_asked.ensures) (sym c.if-not-is_settled.true ∙ c.is_settled.ensures))

pub write_good-requires : goal.write_good-requires
write_good-requires c = asked_few _ (sym c.if-not-is_asked.false ∙ c.is_asked.ensures)

pub returns : goal.returns
returns c =
    let a = c.args in
    same_verdict
    (good_card a.name.now a.rec.now a.line.now (sym c.if-not-is_wide.false ∙ c.is_wide.ensures)
    (sym c.if-not-is_asked.false ∙ c.is_asked.ensures) (sym c.if-not-is_settled.false ∙ c.is_settled.ensures))
    c.write_good.ensures
