-- The board's struct and the definitions: the same lists, so that what they say is what a method promises.
use Rattle.std.specs.Prelude.{List, ℕ, ℤ}
use Rattle.model.specs.Board as model
use Rattle.reading.specs.OfLending.Rest.{Rest, State, board_in, rest_of}
use Rattle.reading.specs.OfLending.Lending.{Lent}
use Rattle.reading.specs.OfLending.Reached as lending
use Rattle.reading.specs.OfLending.inner.Lent.{state_with}
use Rattle.board.specs.declared.Board.{Board}
use Rattle.board.specs.declared.Answered.{Answered}

-- the lists that a board's arrays hold
abbrev pub model_of : Board → Rest
model_of b =
    record {
      numbers = b.numbers;
      powers = b.powers;
      ticks = b.ticks;
      switches = b.switches;
      names = b.names;
      held = b.held;
      next = b.next;
      issues = b.issues;
      cards = b.cards;
      seats = b.seats;
      nodes = b.nodes;
      naming = b.naming;
      currents = b.currents;
    }

-- and the board whose arrays hold them
abbrev pub board_of : Rest → Board
board_of r =
    record {
      numbers = r.numbers;
      powers = r.powers;
      ticks = r.ticks;
      switches = r.switches;
      names = r.names;
      held = r.held;
      next = r.next;
      issues = r.issues;
      cards = r.cards;
      seats = r.seats;
      nodes = r.nodes;
      naming = r.naming;
      currents = r.currents;
    }

-- a board beside what the two slices hold
abbrev pub state_in : Board → List ℤ → List ℤ → State
state_in b volts totals = state_with (model_of b) volts totals

-- the board and answer of a definition handed back: of a call that takes no slices, and of one that does
abbrev pub given_as : model.Answered → Answered
given_as a = record { board = board_of (rest_of a.board); answer = a.answer; ticks = a.ticks }

abbrev pub handed_as : Lent → Answered
handed_as l = record { board = board_of l.state.rest; answer = l.answer; ticks = l.ticks }

-- and seen again, with what stands in the slices and the list that was left in a lent buffer: as the board that was
abbrev pub taken_as : Answered → List ℤ → List ℤ → List ℕ → model.Answered
taken_as r volts totals list =
    record { board = board_in (state_in r.board volts totals); answer = r.answer; ticks = r.ticks; list = list }

-- some calls from a fresh board leave this board, whatever the slices held at each
abbrev pub Reached : Board → Type 0
Reached b = lending.Reached (model_of b)
