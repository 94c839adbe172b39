-- What is told of the places of a set below the place k: the cards there, and the sizes of branches at the node n. And
-- the arrays that a board lends for it.
use Rattle.std.specs.Prelude.{◌≡◌, List, ℕ, ◌*◌, get_or, ℤ, pos}
use Rattle.terms.specs.Rows.{roles, branches}
use Rattle.deck.specs.Stretch.{stretch}
use Rattle.places.specs.Sets.{member, list_of}
use Rattle.model.specs.Board.{Board}
use Rattle.model.specs.Largest.{size_at}

abbrev pub cards_below : List ℕ → ℕ → ℕ → List ℕ
cards_below cards set k = list_of (member set) (λ (i : ℕ). get_or cards i 0) k

-- at a place, by the arrays of nodes and of currents
abbrev pub size_in : List ℕ → List ℤ → ℕ → ℕ → ℕ
size_in nodes currents n i =
    size_at n (stretch 0 nodes (roles * i) roles) (stretch (pos 0) currents (branches * i) branches)

abbrev pub sizes_below : List ℕ → List ℤ → ℕ → ℕ → ℕ → List ℕ
sizes_below nodes currents set n k = list_of (member set) (size_in nodes currents n) k

pub record LendsNode (b : Board) (cards nodes naming : List ℕ) (currents : List ℤ) : Type 0 where
  pub cards_are : cards ≡ b.cards
  pub nodes_are : nodes ≡ b.nodes
  pub naming_are : naming ≡ b.naming
  pub currents_are : currents ≡ b.currents
