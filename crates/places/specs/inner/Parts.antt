-- A place or none, also as a number, the next place of a set, and what joining and leaving the sets of nodes asks.
use Rattle.std.specs.Prelude.{◌≡◌, Option, Some, None, true, false, List, ℕ, ◌≤◌, ◌<◌, length}
use Rattle.deck.specs.OfTerms.Rows.{roles}
use Rattle.given.specs.OfTotals.Gives.{nodes_most}
use Rattle.given.specs.OfTotals.inner.Sums.{Wired}
use Rattle.given.specs.Arguments.{Found, none, some}
use Rattle.places.specs.Counts.{transistors_most}
use Rattle.places.specs.Sets.{member}

-- the place found, or the number of places where there is none
abbrev pub place_or : ℕ → Found ℕ → ℕ
place_or most none = most
place_or most (some i) = i

-- a place that was found, or none
abbrev pub found : Option ℕ → Found ℕ
found None = none
found (Some i) = some i

-- i is the first place of the set from the place `from` on, or the number of places where there is none
pub record NextIn (set from i : ℕ) : Type 0 where
  pub most : i ≤ transistors_most
  pub later : i < transistors_most → from ≤ i
  pub is : i < transistors_most → member set i ≡ true
  pub between : (j : ℕ) → from ≤ j → j < i → member set j ≡ false

-- a place, nodes of the board for all roles, and a set for each node
pub record Entering (sets : List ℕ) (i : ℕ) (on : List ℕ) : Type 0 where
  pub sets_long : length sets ≡ nodes_most
  pub place : i < transistors_most
  pub on_long : length on ≡ roles
  pub nodes : Wired nodes_most on
