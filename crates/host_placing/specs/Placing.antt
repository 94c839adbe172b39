-- What a host's call that stands a transistor on a board leaves: its result, the board, the totals and the lent places.
use Rattle.std.specs.Prelude.{◌≡◌, Bool, true, false, ◌||◌, List, ℕ, eqb, length, ℤ}
use Rattle.refusal.specs.declared.Refusal.TheVariants.{Malformed}
use Rattle.roles.specs.Roles.{roles_of}
use Rattle.lending.specs.Rest.{State}
use Rattle.lending.specs.Lending.{Lent, refuse, placed_lent}
use Rattle.host_changes.specs.OfBoard.Board.{Board}
use Rattle.host_changes.specs.OfBoard.Promise.{handed_as}
use Rattle.host_words.specs.Words.{issue_over, who_over, branch_over}
use Rattle.host_changes.specs.Changes.{Leaves}

-- a list of nodes has seven of them, or eleven
abbrev pub is_list : List ℤ → Bool
is_list nodes = eqb (length nodes) 7 || eqb (length nodes) 11

abbrev pub placing_if : Bool → State → ℤ → List ℤ → Lent
placing_if true s card nodes = placed_lent s card (roles_of nodes)
placing_if false s card nodes = refuse s Malformed

-- 1 for the list first of all
unfoldable pub placing_of : State → ℤ → List ℤ → Lent
placing_of s card nodes = placing_if (is_list nodes) s card nodes

-- a transistor placed: its number in the place i, or who overloads in which branch in the places w and k
pub record Placed (l : Lent) (b' : Board) (t' : List ℤ) (i i' w w' k k' r : ℕ) : Type 0 where
  pub leaves : Leaves (handed_as l) b' r
  pub totals : t' ≡ l.state.totals
  pub issue : i' ≡ issue_over l.answer i
  pub who : w' ≡ who_over l.answer w
  pub branch : k' ≡ branch_over l.answer k
