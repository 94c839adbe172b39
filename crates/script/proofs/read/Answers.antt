-- A line that is too long, one that is passed over, and what any other says to its row.
use Rattle.std.proofs.Common.{sym, ap, ◌∙◌}
use Rattle.script.specs.Command.{passed_over}
use Rattle.verbs.specs.Table.{row_named}
use Rattle.script.proofs.Sayings.{says_long, says_nothing, says_row}
use Rattle.script.proofs.read.Goals as goal

pub returns-then-line-gt-LONGEST_LINE : goal.returns-then-line-gt-LONGEST_LINE
returns-then-line-gt-LONGEST_LINE c = says_long c.if-line-gt-LONGEST_LINE.true c.no_words.ensures c.said.ensures

pub returns-then-is_passed_over : goal.returns-then-is_passed_over
returns-then-is_passed_over c =
    says_nothing c.if-line-gt-LONGEST_LINE.false c.words_of-words.ensures
    (sym c.if-is_passed_over.true ∙ c.is_passed_over.ensures ∙ ap passed_over c.word.ensures)
    c.said-then-is_passed_over.ensures

pub returns : goal.returns
returns c =
    says_row c.if-line-gt-LONGEST_LINE.false c.words_of-words.ensures
    (sym c.if-is_passed_over.false ∙ c.is_passed_over.ensures ∙ ap passed_over c.word.ensures)
    (c.named-row.ensures ∙ ap row_named c.word-2.ensures) c.said_to.ensures
