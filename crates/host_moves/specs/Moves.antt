-- What a host's call that moves nodes or lifts a transistor leaves: its result, the board, the lent slices and the lent
-- places.
use Rattle.std.specs.Prelude.{◌≡◌, List, ℕ, ℤ}
use Rattle.lending.specs.Lending.{Lent}
use Rattle.host_changes.specs.OfBoard.Board.{Board}
use Rattle.host_changes.specs.OfBoard.Promise.{handed_as}
use Rattle.host_words.specs.Words.{who_over, branch_over}
use Rattle.host_changes.specs.Changes.{Leaves}

-- nodes moved: who overloads in which branch in the places w and k
pub record Moved (l : Lent) (b' : Board) (v' t' : List ℤ) (w w' k k' r : ℕ) : Type 0 where
  pub leaves : Leaves (handed_as l) b' r
  pub volts : v' ≡ l.state.volts
  pub totals : t' ≡ l.state.totals
  pub who : w' ≡ who_over l.answer w
  pub branch : k' ≡ branch_over l.answer k

-- a transistor lifted
pub record Lifted (l : Lent) (b' : Board) (t' : List ℤ) (r : ℕ) : Type 0 where
  pub leaves : Leaves (handed_as l) b' r
  pub totals : t' ≡ l.state.totals
