-- What is said to a command that asks for a list or for the sheet.
use Rattle.std.specs.Prelude.{List, [], ◌++◌, ℕ, zero, suc, ℤ, pos, replicate}
use Rattle.bytes_le.specs.Buffer.{over}
use Rattle.places.specs.Counts.{transistors_most}
use Rattle.answers.specs.declared.Answer.TheVariants as said
use Rattle.answers.specs.Answers.{sheet_nodes, answer_line}
use Rattle.model.specs.Board.{Board}
use Rattle.model.specs.declared.Answer.{Answer}
use Rattle.model.specs.declared.Answer.TheVariants as told
use Rattle.model.specs.Model as model
use Rattle.telling.specs.Said.{listed_of, row_of}
use Rattle.lending.specs.Rest.{State}
use Rattle.lending.specs.Lending.{showed_lent}

-- who names a node; the list has room for all
abbrev pub no_list : List ℕ
no_list = replicate transistors_most 0

unfoldable pub who_said : Board → ℤ → List ℕ
who_said b n =
    listed_of (model.listed_of b n transistors_most).answer (over (model.listed_of b n transistors_most).list no_list)

-- the sheet's rows of the first n nodes
unfoldable pub rows_to : State → ℕ → List ℕ
rows_to s zero = []
rows_to s (suc n) = rows_to s n ++ row_of n (showed_lent s (pos n)).answer

-- the sheet: its first line, and the rows of all nodes
unfoldable pub rows_said : State → List ℕ
rows_said s = answer_line said.Sheet ++ rows_to s sheet_nodes

-- no sheet is made where reading a node is refused
abbrev pub sheet_if : Answer → State → List ℕ
sheet_if (told.Issue i) s = rows_said s
sheet_if told.Done s = rows_said s
sheet_if (told.Node v t) s = rows_said s
sheet_if told.Currents s = rows_said s
sheet_if (told.Listed n) s = rows_said s
sheet_if (told.Summed t c most) s = rows_said s
sheet_if (told.Refused f) s = answer_line (said.Refused f)

unfoldable pub sheet_said : State → List ℕ
sheet_said s = sheet_if (showed_lent s (pos 0)).answer s
