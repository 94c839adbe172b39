-- The same questions put to the flat arrays: where a number stands, who stands on a card, which issue of a name is the
-- highest, and who names a node.
use Rattle.std.specs.Prelude.{Bool, false, cond, List, ℕ, ◌+◌, ◌*◌, eqb, get_or}
use Rattle.name.specs.Name.{name_length}
use Rattle.deck.specs.OfTerms.Rows.{roles}
use Rattle.deck.specs.OfRows.inner.FromTerms.{list_up}
use Rattle.deck.specs.Stretch.{stretch}
use Rattle.deck.specs.Layout.{switches_each}
use Rattle.given.specs.Lists.{any_of, largest}
use Rattle.given.specs.Arguments.{Found, none, Ties}
use Rattle.places.specs.Counts.{cards_most, transistors_most}
use Rattle.places.specs.Finding.{first, found_at, on_card, on_node, issue_if}
use Rattle.places.specs.Sets.{set_of}

-- 0, 1, .. below n
abbrev pub below : ℕ → List ℕ
below n = list_up (λ (i : ℕ). i) n 0

abbrev pub is_at : ℕ → List ℕ → ℕ → Bool
is_at n numbers i = eqb (get_or numbers i 0) n

-- the first of so many places that holds the number; the number of places where none does
abbrev pub first_at : ℕ → ℕ → List ℕ → ℕ
first_at most n numbers = first (is_at n numbers) (below most)

-- the place of an issue number: 0 has none
abbrev pub number_place : ℕ → ℕ → List ℕ → Found ℕ
number_place most n numbers = cond (eqb n 0) none (found_at most (first_at most n numbers))

-- the first empty place of a transistor
abbrev pub free_place : List ℕ → ℕ
free_place issues = first_at transistors_most 0 issues

abbrev pub stands_on_at : ℕ → List ℕ → List ℕ → ℕ → Bool
stands_on_at n issues cards i = on_card n (get_or issues i 0) (get_or cards i 0)

-- a transistor stands on the card n
abbrev pub any_on : ℕ → List ℕ → List ℕ → Bool
any_on n issues cards = any_of (stands_on_at n issues cards) (below transistors_most)

abbrev pub issue_if_at : List ℕ → List ℕ → List ℕ → ℕ → ℕ
issue_if_at asked held names i = issue_if asked (get_or held i 0) (stretch 0 names (name_length * i) name_length)

-- the highest issue of a name
abbrev pub highest_in : List ℕ → List ℕ → List ℕ → ℕ
highest_in asked held names = largest (list_up (issue_if_at asked held names) cards_most 0)

abbrev pub stands_at_in : ℕ → List ℕ → List ℕ → ℕ → Bool
stands_at_in n issues nodes i = on_node n (get_or issues i 0) (stretch 0 nodes (roles * i) roles)

-- the places of the transistors that name the node n
abbrev pub naming_in : ℕ → List ℕ → List ℕ → ℕ
naming_in n issues nodes = set_of (stands_at_in n issues nodes) transistors_most

-- which roles the card at place i holds together, and whether it has all eleven
abbrev pub ties_at : List Bool → ℕ → Ties
ties_at switches i =
    record {
      joined = get_or switches (switches_each * i + 1) false;
      close = get_or switches (switches_each * i + 3) false;
    }

abbrev pub wide_at : List Bool → ℕ → Bool
wide_at switches i = get_or switches (switches_each * i + 4) false
