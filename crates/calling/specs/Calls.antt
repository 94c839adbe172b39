-- What a command's call of the board leaves, and what is said to it.
use Rattle.std.specs.Prelude.{◌≡◌, List, ℕ, ℤ}
use Rattle.page.specs.declared.Page.{Page}
use Rattle.page.specs.Page.{Writes}
use Rattle.script.specs.declared.Command.{Command}
use Rattle.asks.specs.declared.Call.{Call}
use Rattle.asks.specs.Numbers.{number_in}
use Rattle.telling.specs.Said.{said_of}
use Rattle.lending.specs.Lending.{Lent}
use Rattle.asking.specs.OfBoard.Board.{Board}
use Rattle.asking.specs.OfBoard.Promise.{board_of}

-- what is said to a call
abbrev pub call_said : Lent → Call → Command → List ℕ
call_said l k c = said_of k (number_in c.numbers) l.answer l.ticks

-- a call of the board leaves what it gives, and puts what is said to it
pub record Calls {N : ℕ} (l : Lent) (k : Call) (c : Command) (r : Board) (v' t' : List ℤ) (old new : Page N) : Type 0 where
  pub board : r ≡ board_of l.state.rest
  pub volts : v' ≡ l.state.volts
  pub totals : t' ≡ l.state.totals
  pub said : Writes (call_said l k c) old new
