-- What a refusal tells, by its variant.
use native.Mathlib.Omega.{arith}
use Rattle.sheet.specs.Lines.{label_line, told_line}
use Rattle.sheet.specs.laws.LinesFit.{told_whole}
use Rattle.texts.proofs.Written.{text_written}
use Rattle.answers.proofs.Told.{no_values, two_values}
use Rattle.answers.proofs.Written.{as_told}
use Rattle.answers.proofs.parts.refused.Goals as goal

pub returns-in-Overload : goal.returns-in-Overload
returns-in-Overload c =
    as_told c.number-n.ensures (two_values c.in-Overload.is)
    (text_written c.told_line.ensures (told_whole _ (omega arith)) c.put_text.ensures)

pub returns-in_default : goal.returns-in_default
unfolding label_line told_line
returns-in_default c =
    as_told c.number-n.ensures (no_values c.args.f c.in_default.not-Overload c.in_default.not-Injection) c.label.ensures
