-- A board without voltages and totals, which stand in two lent slices of the caller, in microvolts and ticks; and the
-- board that was, with both in it.
use Rattle.std.specs.Prelude.{Bool, List, [], map, ℕ, ℤ}
use Rattle.volts.specs.Volts.{kept_as}
use Rattle.model.specs.Board.{Board}
use Rattle.model.specs.Model.{volts_of}

-- what is handed from call to call by value
pub record Rest : Type 0 where
  pub numbers : List ℕ
  pub powers : List ℕ
  pub ticks : List ℕ
  pub switches : List Bool
  pub names : List ℕ
  pub held : List ℕ
  pub next : ℕ
  pub issues : List ℕ
  pub cards : List ℕ
  pub seats : List ℕ
  pub nodes : List ℕ
  pub naming : List ℕ
  pub currents : List ℤ

-- that and the two slices: what a call finds, and what it leaves
pub record State : Type 0 where
  pub rest : Rest
  pub volts : List ℤ
  pub totals : List ℤ

-- the board that was, with the slices in it: voltages as it keeps them
abbrev pub board_in : State → Board
board_in s =
    record {
      numbers = s.rest.numbers;
      powers = s.rest.powers;
      ticks = s.rest.ticks;
      switches = s.rest.switches;
      names = s.rest.names;
      held = s.rest.held;
      next = s.rest.next;
      volts = map kept_as s.volts;
      totals = s.totals;
      issues = s.rest.issues;
      cards = s.rest.cards;
      seats = s.rest.seats;
      nodes = s.rest.nodes;
      naming = s.rest.naming;
      currents = s.rest.currents;
    }

-- with none in it: what calls that take no slices are asked of
abbrev pub bare : Rest → Board
bare r = board_in (record { rest = r; volts = []; totals = [] })

-- and out of it again
abbrev pub rest_of : Board → Rest
rest_of b =
    record {
      numbers = b.numbers;
      powers = b.powers;
      ticks = b.ticks;
      switches = b.switches;
      names = b.names;
      held = b.held;
      next = b.next;
      issues = b.issues;
      cards = b.cards;
      seats = b.seats;
      nodes = b.nodes;
      naming = b.naming;
      currents = b.currents;
    }

abbrev pub state_of : Board → State
state_of b = record { rest = rest_of b; volts = volts_of b; totals = b.totals }
