-- No digit, other bytes too, or a number.
use Rattle.std.proofs.Common.{sym, ◌∙◌, rules}
use mir.Syntax.{w64}
use mir.ValLaws.{to_z-of_z}
use Rattle.spelling.proofs.Numerals.{empty_numeral, bad_numeral, good_numeral}
use Rattle.spelling.proofs.numeral.read.Goals as goal

pub returns-then-is_empty : goal.returns-then-is_empty
returns-then-is_empty c = empty_numeral _ _ (search rules)

pub returns-then-all_digits : goal.returns-then-all_digits
returns-then-all_digits c =
    good_numeral _ _ (sym c.if-all_digits.true ∙ c.all_digits.ensures) (search rules) c.value.ensures
    (to_z-of_z w64 c.held.result (search rules) ∙ c.held.ensures)

pub returns-else-all_digits : goal.returns-else-all_digits
returns-else-all_digits c = bad_numeral _ _ (sym c.if-all_digits.false ∙ c.all_digits.ensures) (search rules)
