-- A command obeyed: the board, the slices and the library held that it leaves, and what is said.
use Rattle.std.specs.Prelude.{◌≡◌, Bool, List, ℕ, ℤ}
use Rattle.page.specs.declared.Page.{Page}
use Rattle.page.specs.Page.{Writes}
use Rattle.script.specs.declared.Command.{Command}
use Rattle.asks.specs.declared.Asks.{Asks}
use Rattle.asks.specs.declared.Asks.TheVariants as asks
use Rattle.asks.specs.Asks.{asks_of}
use Rattle.asks.specs.Numbers.{number_in}
use Rattle.poking.specs.Poked.{pokes, poked_volts, poked_totals, poke_said}
use Rattle.shelving.specs.Shelf.{held_of}
use Rattle.shelving.specs.Apart.{apart_said, apart_shelf}
use Rattle.lending.specs.Rest.{State, bare}
use Rattle.evening.specs.OfBoard.Board.{Board}
use Rattle.evening.specs.OfBoard.Promise.{board_of}
use Rattle.calling.specs.OfAsking.Asked.{asked_of}
use Rattle.calling.specs.Calls.{call_said}
use Rattle.evening.specs.Said.{who_said, sheet_said}

-- what a command leaves, and what is said
pub record Obeyed : Type 0 where
  pub state : State
  pub shelf : List ℕ
  pub said : List ℕ

abbrev pub obeyed : State → List ℕ → List ℕ → Obeyed
obeyed s shelf said = record { state = s; shelf = shelf; said = said }

-- the slices after a poke
abbrev pub poked_state : Bool → Command → State → State
poked_state b c s =
    record { rest = s.rest; volts = poked_volts b c s.volts; totals = poked_totals b c s.totals }

-- by whom it asks
abbrev pub obeyed_by : Asks → State → List ℕ → Bool → Command → List ℕ → List ℕ → Obeyed
obeyed_by (asks.Board k) s shelf allowed c line spelled =
    obeyed (asked_of s k c line spelled (held_of shelf)).state shelf
    (call_said (asked_of s k c line spelled (held_of shelf)) k c)
obeyed_by asks.Who s shelf allowed c line spelled =
    obeyed s shelf (who_said (bare s.rest) (number_in c.numbers))
obeyed_by asks.Sheet s shelf allowed c line spelled = obeyed s shelf (sheet_said s)
obeyed_by asks.Slices s shelf allowed c line spelled =
    obeyed (poked_state (pokes allowed c line) c s) shelf (poke_said (pokes allowed c line) c line)
obeyed_by (asks.Apart what) s shelf allowed c line spelled =
    obeyed s (apart_shelf what shelf) (apart_said what c.words line shelf)

-- a state, the shelf, whether a poke is allowed, the command, its line, and the bytes that its hex digits spell
unfoldable pub obeyed_of : State → List ℕ → Bool → Command → List ℕ → List ℕ → Obeyed
obeyed_of s shelf allowed c line spelled = obeyed_by (asks_of c.verb) s shelf allowed c line spelled

pub record Obeys {N : ℕ} (o : Obeyed) (r : Board) (v' t' : List ℤ) (shelf' : List ℕ) (old new : Page N) : Type 0 where
  pub board : r ≡ board_of o.state.rest
  pub volts : v' ≡ o.state.volts
  pub totals : t' ≡ o.state.totals
  pub shelf : shelf' ≡ o.shelf
  pub said : Writes o.said old new
