-- A text of a short word has room.
use native.Mathlib.Omega.{arith}
use Rattle.sheet.specs.laws.LinesFit.{label_whole}
use Rattle.texts.proofs.Written.{text_written}
use Rattle.answers.proofs.parts.label.Goals as goal

pub returns : goal.returns
returns c = text_written c.label_line.ensures (label_whole _ _ (omega arith)) c.put_text.ensures
