-- Cards and transistors in places: looking through them.
use Rattle.std.specs.Prelude.{Bool, false, cond, List, [], ◌∷◌, ℕ, suc, eqb, ltb}
use Rattle.name.specs.Name.{same}
use Rattle.given.specs.Lists.{any_of, larger}
use Rattle.given.specs.Arguments.{Found, none, some}
use Rattle.places.specs.Counts.{cards_most, transistors_most}
use Rattle.places.specs.Gathered.{Card, Transistor}

-- the first place that passes the test; the number of places where none does
unfoldable pub first : {A : Type 0} → (A → Bool) → List A → ℕ
first p [] = 0
first p (a ∷ rest) = cond (p a) 0 (suc (first p rest))

-- a place as what was found, where it is below the number of places
abbrev pub found_at : ℕ → ℕ → Found ℕ
found_at most i = cond (ltb i most) (some i) none

-- issue 0 marks an empty place
abbrev pub is_card : ℕ → Card → Bool
is_card n c = eqb c.issue n

abbrev pub is_transistor : ℕ → Transistor → Bool
is_transistor n t = eqb t.issue n

-- the place of an issue number: 0 has none
abbrev pub card_place : ℕ → List Card → Found ℕ
card_place n cards = cond (eqb n 0) none (found_at cards_most (first (is_card n) cards))

abbrev pub transistor_place : ℕ → List Transistor → Found ℕ
transistor_place n ts = cond (eqb n 0) none (found_at transistors_most (first (is_transistor n) ts))

abbrev pub free_card : List Card → ℕ
free_card cards = first (is_card 0) cards

abbrev pub free_transistor : List Transistor → ℕ
free_transistor ts = first (is_transistor 0) ts

-- a transistor of this issue and this card's issue stands on the card n
abbrev pub on_card : ℕ → ℕ → ℕ → Bool
on_card n issue card = cond (eqb issue 0) false (eqb card n)

abbrev pub stands_on : ℕ → Transistor → Bool
stands_on n t = on_card n t.issue t.card

-- an issue number where the name is the one asked for, else 0
abbrev pub issue_if : List ℕ → ℕ → List ℕ → ℕ
issue_if asked issue name = cond (same name asked) issue 0

-- the highest issue among the places that hold a card of the name
unfoldable pub highest_at : List ℕ → List Card → ℕ
highest_at asked [] = 0
highest_at asked (c ∷ cs) = larger (issue_if asked c.issue c.name) (highest_at asked cs)

-- one of the nodes is n
abbrev pub names : ℕ → List ℕ → Bool
names n nodes = any_of (λ (m : ℕ). eqb m n) nodes

-- a transistor of this issue, on these nodes, stands and names the node n
abbrev pub on_node : ℕ → ℕ → List ℕ → Bool
on_node n issue nodes = cond (eqb issue 0) false (names n nodes)

abbrev pub stands_at : ℕ → Transistor → Bool
stands_at n t = on_node n t.issue t.nodes
