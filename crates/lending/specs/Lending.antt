-- What each call gives over two lent slices with any numbers in them: the answer, the next board, and the 64 numbers.
use Rattle.std.specs.Prelude.{◌||◌, List, [], ℕ, replicate, ℤ, pos}
use Rattle.refusal.specs.declared.Refusal.{Refusal}
use Rattle.refusal.specs.declared.Refusal.TheVariants.{OutOfReach, OutOfRange}
use Rattle.refusal.specs.Order.{Verdict, no, yes, refuse_if, and_then}
use Rattle.model.specs.OfSlices.Slices.{other_length, off_slices, some_outside}
use Rattle.model.specs.Counts.{nodes_most}
use Rattle.model.specs.Board.{Board, Answered}
use Rattle.model.specs.declared.Answer.{Answer}
use Rattle.model.specs.declared.Answer.TheVariants.{Issue, Done, Node, Currents, Listed, Summed, Refused}
use Rattle.model.specs.Desk.{Call, load, place, move, lift, withdraw, look_up, node, currents, who, sum_up}
use Rattle.model.specs.Model.{fresh_board, no_ticks, loaded_of, placed_of, moved_of, lifted_of, withdrawn_of, looked_of}
use Rattle.model.specs.Model.{showed_of, opened_of, listed_of, summed_of}
use Rattle.lending.specs.Rest.{Rest, State, board_in, bare, rest_of, state_of}

-- an answer with the state that the call leaves; its numbers stand beside it as the board that was has them
pub record Lent : Type 0 where
  pub state : State
  pub answer : Answer
  pub ticks : List ℤ
  pub list : List ℕ

-- what the board that was answers and leaves, with its voltages and totals in the slices
abbrev pub lent_as : Answered → Lent
lent_as a = record { state = state_of a.board; answer = a.answer; ticks = a.ticks; list = a.list }

-- a refusal leaves the board and both slices as they were
abbrev pub refuse : State → Refusal → Lent
refuse s f = record { state = s; answer = Refused f; ticks = no_ticks; list = [] }

-- ---- the order of refusals

-- what an answer refuses, if anything
abbrev pub refusal_in : Answer → Verdict Answer
refusal_in (Issue n) = yes (Issue n)
refusal_in Done = yes Done
refusal_in (Node v t) = yes (Node v t)
refusal_in Currents = yes Currents
refusal_in (Listed n) = yes (Listed n)
refusal_in (Summed t c l) = yes (Summed t c l)
refusal_in (Refused f) = no f

-- 13 for the slices first of all, then what the board that was refuses, in its order
abbrev pub read_verdict : State → Answered → Verdict Answer
read_verdict s a = refuse_if (off_slices s.volts s.totals) OutOfRange (refusal_in a.answer)

-- and where totals change, 10 last of all, judged on each total as it would stand
abbrev pub change_verdict : State → Answered → Verdict Answer
change_verdict s a =
    and_then (read_verdict s a) (λ (told : Answer). refuse_if (some_outside a.board.totals) OutOfReach (yes told))

abbrev pub lent_by : State → Answered → Verdict Answer → Lent
lent_by s a (no f) = refuse s f
lent_by s a (yes told) = lent_as a

-- ---- calls that change the slices, that read them, and that take none

abbrev pub changing : (Board → Answered) → State → Lent
changing call s = lent_by s (call (board_in s)) (change_verdict s (call (board_in s)))

abbrev pub seeing : (Board → Answered) → State → Lent
seeing call s = lent_by s (call (board_in s)) (read_verdict s (call (board_in s)))

abbrev pub beside : State → Answered → Lent
beside s a =
    record {
      state = record { rest = rest_of a.board; volts = s.volts; totals = s.totals };
      answer = a.answer;
      ticks = a.ticks;
      list = a.list;
    }

-- ---- the calls

-- a fresh board tests lengths only, and fills both slices; refused, it stands beside slices that are left
abbrev pub fresh_rest : Rest
fresh_rest = rest_of fresh_board

abbrev pub fresh_by : List ℤ → List ℤ → Verdict Answer → Lent
fresh_by volts totals (no f) = refuse (record { rest = fresh_rest; volts = volts; totals = totals }) f
fresh_by volts totals (yes told) =
    record {
      state = record { rest = fresh_rest; volts = replicate nodes_most (pos 0); totals = replicate nodes_most (pos 0) };
      answer = told;
      ticks = no_ticks;
      list = [];
    }

unfoldable pub fresh_lent : List ℤ → List ℤ → Lent
fresh_lent volts totals =
    fresh_by volts totals (refuse_if (other_length volts || other_length totals) OutOfRange (yes Done))

-- what comes in is what the newcomer has at the slices' voltages
unfoldable pub placed_lent : State → ℤ → List ℤ → Lent
placed_lent s card nodes = changing (λ (b : Board). placed_of b card nodes) s

-- only the moved nodes' transistors are worked, and 15 and 18 are judged on these: what they hold goes out, and what
-- they have at the new voltages comes in, whatever the slices held
unfoldable pub moved_lent : State → List ℤ → Lent
moved_lent s pairs = changing (λ (b : Board). moved_of b pairs) s

-- what the transistor holds goes out
unfoldable pub lifted_lent : State → ℤ → Lent
lifted_lent s n = changing (λ (b : Board). lifted_of b n) s

-- a node's numbers as the slices have them
unfoldable pub showed_lent : State → ℤ → Lent
showed_lent s n = seeing (λ (b : Board). showed_of b n) s

unfoldable pub lent_of : State → Call → Lent
lent_of s (load name bytes) = beside s (loaded_of (bare s.rest) name bytes)
lent_of s (place card nodes sized) = placed_lent s card nodes
lent_of s (move pairs) = moved_lent s pairs
lent_of s (lift n) = lifted_lent s n
lent_of s (withdraw n) = beside s (withdrawn_of (bare s.rest) n)
lent_of s (look_up name) = beside s (looked_of (bare s.rest) name)
lent_of s (node n) = showed_lent s n
lent_of s (currents n) = beside s (opened_of (bare s.rest) n)
lent_of s (who n room) = beside s (listed_of (bare s.rest) n room)
lent_of s (sum_up n) = beside s (summed_of (bare s.rest) n)
