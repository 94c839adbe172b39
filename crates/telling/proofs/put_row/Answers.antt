-- A node that is read has a line, and no other answer has.
use Rattle.std.proofs.Common.{rules}
use mir.Syntax.{w64}
use mir.ValLaws.{to_z-of_z}
use Rattle.page.proofs.Pages.{as_bytes, write_nothing}
use Rattle.sheet.specs.laws.LinesFit.{sheet_whole}
use Rattle.texts.proofs.Written.{text_written}
use Rattle.telling.specs.Said.{row_of}
use Rattle.telling.proofs.Others.{row_none}
use Rattle.telling.proofs.Written.{as_row}
use Rattle.telling.proofs.put_row.Goals as goal

pub returns-in-Node : goal.returns-in-Node
unfolding row_of
returns-in-Node c =
    rw c.in-Node.is
    (as_row (to_z-of_z w64 _ (search rules)) (to_z-of_z w64 _ (search rules)) _
    (text_written c.sheet_line.ensures (sheet_whole _ _ _) c.put_text.ensures))

pub returns-in_default : goal.returns-in_default
returns-in_default c = as_bytes (row_none c.args.node c.args.answer c.in_default.not-Node) write_nothing
