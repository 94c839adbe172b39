-- The line that answers a command, with the newline that ends it.
use Rattle.std.specs.Prelude.{List, ℕ}
use Rattle.refusal.specs.Told.{told}
use Rattle.sheet.specs.Lines.{label_line, told_line, node_line}
use Rattle.answers.specs.declared.Answer.{Answer}
use Rattle.answers.specs.declared.Answer.TheVariants.{Library, Offset, Card, Transistor, Moved, Lifted}
use Rattle.answers.specs.declared.Answer.TheVariants.{Withdrawn, Reading, Sheet, Refused, TooLong, Mended, Poked}
use Rattle.spelling.specs.Bytes.{bytes}

-- how many nodes a sheet has
abbrev pub sheet_nodes : ℕ
sheet_nodes = 32

unfoldable pub answer_line : Answer → List ℕ
answer_line (Library n) = label_line (bytes "library") n
answer_line (Offset n) = label_line (bytes "record") n
answer_line (Card n) = label_line (bytes "card") n
answer_line (Transistor n) = label_line (bytes "transistor") n
answer_line Moved = bytes "moved\n"
answer_line Lifted = bytes "lifted\n"
answer_line Withdrawn = bytes "withdrawn\n"
answer_line (Reading node v t) = node_line node v t
answer_line Sheet = label_line (bytes "sheet") sheet_nodes
answer_line (Refused f) = told_line (told f)
answer_line TooLong = bytes "error line too long\n"
answer_line (Mended n) = label_line (bytes "mended") n
answer_line Poked = bytes "poked\n"
