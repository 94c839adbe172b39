-- What a move on a host's own board leaves: its result, the lent slices, the currents held, and the lent places. The
-- rest of the board is only read.
use Rattle.std.specs.Prelude.{◌≡◌, List, ℕ, ℤ}
use Rattle.lending.specs.Lending.{Lent}
use Rattle.host_words.specs.Words.{result_of, who_over, branch_over}

-- nodes moved: who overloads in which branch in the places w and k
pub record MovedInPlace (l : Lent) (v' t' c' : List ℤ) (w w' k k' r : ℕ) : Type 0 where
  pub result : r ≡ result_of l.answer
  pub volts : v' ≡ l.state.volts
  pub totals : t' ≡ l.state.totals
  pub currents : c' ≡ l.state.rest.currents
  pub who : w' ≡ who_over l.answer w
  pub branch : k' ≡ branch_over l.answer k
