-- The sets of places kept by node, one for each: what changes in them where a transistor comes to a place, or leaves
-- it. Nothing is said of what they hold: that they are the places of those that name the node is a theorem over calls.
use Rattle.std.specs.Prelude.{cond, List, ℕ, get_or}
use Rattle.deck.specs.OfRows.inner.FromTerms.{list_up}
use Rattle.given.specs.OfTotals.Gives.{nodes_most}
use Rattle.places.specs.Finding.{names}
use Rattle.places.specs.Sets.{with_place, without_place}

-- f done to the set of each node that is one of these
unfoldable pub at_nodes : (ℕ → ℕ) → List ℕ → List ℕ → List ℕ
at_nodes f sets nodes =
    list_up (λ (n : ℕ). cond (names n nodes) (f (get_or sets n 0)) (get_or sets n 0)) nodes_most 0

-- whoever comes to place i joins the sets of its nodes, and leaves them again
abbrev pub joined : List ℕ → ℕ → List ℕ → List ℕ
joined sets i nodes = at_nodes (λ (s : ℕ). with_place s i) sets nodes

abbrev pub parted : List ℕ → ℕ → List ℕ → List ℕ
parted sets i nodes = at_nodes (λ (s : ℕ). without_place s i) sets nodes
