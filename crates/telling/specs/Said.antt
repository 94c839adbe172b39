-- What is said of the board's answers: to a command, of who is listed, and a row of the sheet.
use Rattle.std.specs.Prelude.{cond, List, [], ℕ, ltb, ℤ, pos, negsuc, take}
use Rattle.asks.specs.declared.Call.{Call}
use Rattle.asks.specs.declared.Call.TheVariants as call
use Rattle.asks.specs.declared.Change.{Change}
use Rattle.asks.specs.declared.Change.TheVariants as change
use Rattle.sheet.specs.Lines.{sheet_line}
use Rattle.spaced.specs.Spaced.{currents_line, who_line, sum_line}
use Rattle.answers.specs.declared.Answer as answers
use Rattle.answers.specs.declared.Answer.TheVariants as said
use Rattle.answers.specs.Answers.{answer_line}
use Rattle.model.specs.declared.Answer as model
use Rattle.model.specs.declared.Answer.TheVariants as told

-- the number of a node that the board has, and 32 for every other
abbrev pub board_nodes : ℕ
board_nodes = 32

unfoldable pub node_number : ℤ → ℕ
node_number (pos n) = cond (ltb n board_nodes) n board_nodes
node_number (negsuc n) = board_nodes

-- to a call that gives a number: that of a card, or of a transistor
abbrev pub issued_to : Call → ℕ → answers.Answer
issued_to (call.Card what) i = said.Card i
issued_to (call.Change what) i = said.Transistor i
issued_to call.Moves i = said.Card i
issued_to (call.Read what) i = said.Card i

-- to a call that gives nothing: what was done
abbrev pub change_done : Change → answers.Answer
change_done change.Place = said.Moved
change_done change.Move = said.Moved
change_done change.Lift = said.Lifted
change_done change.Withdraw = said.Withdrawn

abbrev pub done_to : Call → answers.Answer
done_to (call.Card what) = said.Moved
done_to (call.Change what) = change_done what
done_to call.Moves = said.Moved
done_to (call.Read what) = said.Moved

-- to a command by its call and its first number, with the currents that stand beside the answer
unfoldable pub said_of : Call → ℤ → model.Answer → List ℤ → List ℕ
said_of k number (told.Issue i) ticks = answer_line (issued_to k i)
said_of k number told.Done ticks = answer_line (done_to k)
said_of k number (told.Node u t) ticks = answer_line (said.Reading (node_number number) u t)
said_of k number told.Currents ticks = currents_line ticks
said_of k number (told.Listed n) ticks = []
said_of k number (told.Summed t c most) ticks = sum_line t c most
said_of k number (told.Refused f) ticks = answer_line (said.Refused f)

-- who names a node: the first of these issue numbers
unfoldable pub listed_of : model.Answer → List ℕ → List ℕ
listed_of (told.Issue i) issues = []
listed_of told.Done issues = []
listed_of (told.Node u t) issues = []
listed_of told.Currents issues = []
listed_of (told.Listed n) issues = who_line (take n issues)
listed_of (told.Summed t c most) issues = []
listed_of (told.Refused f) issues = answer_line (said.Refused f)

-- a node's line of the sheet
unfoldable pub row_of : ℕ → model.Answer → List ℕ
row_of node (told.Issue i) = []
row_of node told.Done = []
row_of node (told.Node u t) = sheet_line node u t
row_of node told.Currents = []
row_of node (told.Listed n) = []
row_of node (told.Summed t c most) = []
row_of node (told.Refused f) = []
