-- What a host's call that begins a board or changes its cards leaves: its result, the board, the lent slices and the
-- lent places.
use Rattle.std.specs.Prelude.{◌≡◌, cond, List, ℕ, eqb, ℤ}
use Rattle.model.specs.Board as model
use Rattle.lending.specs.Lending.{fresh_lent}
use Rattle.board.specs.declared.Board.{Board}
use Rattle.board.specs.declared.Answered.{Answered}
use Rattle.board.specs.Promise.{given_as, handed_as, Reached}
use Rattle.host_words.specs.Words.{result_of, issue_over}

-- the result and the board of an answer; calls leave that board
pub record Leaves (e : Answered) (b' : Board) (r : ℕ) : Type 0 where
  pub result : r ≡ result_of e.answer
  pub board : b' ≡ e.board
  pub reached : Reached b'

-- a fresh board in the place of b, whatever that was: an empty one, or b itself where a slice is refused
pub record Begun (b b' : Board) (v v' t t' : List ℤ) (r : ℕ) : Type 0 where
  pub result : r ≡ result_of (fresh_lent v t).answer
  pub board : b' ≡ cond (eqb r 0) (handed_as (fresh_lent v t)).board b
  pub volts : v' ≡ (fresh_lent v t).state.volts
  pub totals : t' ≡ (fresh_lent v t).state.totals
  pub reached : r ≡ 0 → Reached b'

-- a card loaded: its number in the place i, or what was there
pub record Loaded (a : model.Answered) (b' : Board) (i i' r : ℕ) : Type 0 where
  pub leaves : Leaves (given_as a) b' r
  pub issue : i' ≡ issue_over a.answer i
