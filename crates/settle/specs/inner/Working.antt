-- What going through a set of places asks and gives.
use Rattle.std.specs.Prelude.{◌≡◌, Option, Result, is_ok, true, cond, not}
use Rattle.std.specs.Prelude.{List, map, ℕ, ◌-◌, ◌*◌, ◌≤◌, ◌<◌, get_or, length, ℤ, pos}
use Rattle.refusal.specs.declared.Refusal.{Refusal}
use Rattle.volts.specs.Volts.{given_back}
use Rattle.octave.specs.Table.{entries}
use Rattle.scaling.specs.Scaled.{tick_limit}
use Rattle.card.specs.declared.WorkedCard.{WorkedCard}
use Rattle.places.specs.OfRowsTypes.Over.{Over}
use Rattle.flows.specs.OfTerms.Rows.{roles, branches}
use Rattle.places.specs.OfTotals.Gives.{nodes_most}
use Rattle.places.specs.OfTotals.Flow.{over_at, ticks_at, ticks_give, sum_below, with_more}
use Rattle.places.specs.OfTotals.inner.Sums.{Within}
use Rattle.places.specs.OfDeck.Stretch.{stretch}
use Rattle.small.specs.OfSlices.Slices.{some_outside}
use Rattle.flows.specs.inner.Workable.{Volts, Deck, card_of, Able}
use Rattle.places.specs.Counts.{transistors_most}
use Rattle.places.specs.Sets.{member}
use Rattle.settle.specs.declared.First.{First}
use Rattle.settle.specs.First.{first_below, judged}
use Rattle.settle.specs.Change.{changes}
use Rattle.settle.specs.Renewed.{renewed}

abbrev pub card_at : Deck → List ℕ → ℕ → WorkedCard
card_at d seats i = card_of d (get_or seats i 0)

abbrev pub nodes_at : List ℕ → ℕ → List ℕ
nodes_at nodes i = stretch 0 nodes (roles * i) roles

abbrev pub held_at : List ℤ → ℕ → List ℤ
held_at currents i = stretch (pos 0) currents (branches * i) branches

-- the arrays that are only read: the deck, the transistors' issues, seats and nodes; the set, and the new voltages
pub record Round : Type 0 where
  pub deck : Deck
  pub issues : List ℕ
  pub seats : List ℕ
  pub nodes : List ℕ
  pub marked : ℕ
  pub will : List ℕ

abbrev pub round_of : Deck → List ℕ → List ℕ → List ℕ → ℕ → List ℕ → Round
round_of d issues seats nodes set will =
    record { deck = d; issues = issues; seats = seats; nodes = nodes; marked = set; will = will }

-- what node n gains by the places of the set below k, which hold these currents
abbrev pub gained : Round → List ℤ → ℕ → ℕ → ℤ
gained r currents k n =
    changes (member r.marked) (card_at r.deck r.seats) (nodes_at r.nodes) (held_at currents)
    (map given_back r.will) k n

-- by what a place overloads at the new voltages, and its currents there
abbrev pub over_of : Round → ℕ → Option Over
over_of r i = over_at (card_at r.deck r.seats i) (nodes_at r.nodes i) (map given_back r.will)

abbrev pub new_at : Round → ℕ → List ℤ
new_at r i = ticks_at (card_at r.deck r.seats i) (nodes_at r.nodes i) (map given_back r.will)

-- the first of the places of the set below k that overloads
abbrev pub first_so : Round → ℕ → Option First
first_so r k = first_below (member r.marked) (λ (j : ℕ). get_or r.issues j 0) (over_of r) k

-- what is held once the places of the set from i on are worked anew
abbrev pub held_from : Round → List ℤ → ℕ → List ℤ
held_from r currents i = renewed (member r.marked) (new_at r) currents (transistors_most - i) i

-- what the places of the set below k give to node n, where each has these currents
unfoldable pub given : Round → (ℕ → List ℤ) → ℕ → ℕ → ℤ
unfolding sum_below ticks_give
given r each k n =
    sum_below (λ (i : ℕ). cond (member r.marked i) (ticks_give (nodes_at r.nodes i) (each i) n) (pos 0)) k

-- l is that at every node
pub record Sums (r : Round) (each : ℕ → List ℤ) (k : ℕ) (l : List ℤ) : Type 0 where
  pub long : length l ≡ nodes_most
  pub at : (n : ℕ) → n < nodes_most → get_or l n (pos 0) ≡ given r each k n

-- so few places, the first of all, that what they give is small beside 64 bits
abbrev pub few_places : ℕ
few_places = 16

-- the totals as they would stand
abbrev pub standing : Round → List ℤ → List ℤ → List ℤ
standing r currents totals = with_more totals (gained r currents transistors_most)

-- every place of the set can be worked, and what it holds is small
pub record Settling (r : Round) (currents totals : List ℤ) : Type 0 where
  pub will_are : Volts r.will
  pub able : (i : ℕ) → i < transistors_most → member r.marked i ≡ true →
      Able r.deck (get_or r.seats i 0) (nodes_at r.nodes i)
  pub small : (i : ℕ) → i < transistors_most → member r.marked i ≡ true → Within tick_limit (held_at currents i)
  pub long : length totals ≡ nodes_most

-- the places of the set below i are passed, and i is one of the set or none is left: what those places will have comes
-- in, what they hold goes out, and first is the first of them that overloads
pub record Gone (r : Round) (currents : List ℤ) (i : ℕ) (coming going : List ℤ) (first : Option First) : Type 0 where
  pub most : i ≤ transistors_most
  pub is : i < transistors_most → member r.marked i ≡ true
  pub comes : Sums r (new_at r) i coming
  pub goes : Sums r (held_at currents) i going
  pub first_is : first ≡ first_so r i

-- going on from there
pub record Going (r : Round) (table : List ℕ) (currents totals : List ℤ) (i : ℕ) (coming going : List ℤ)
    (first : Option First) : Type 0 where
  pub table_is : table ≡ entries
  pub settling : Settling r currents totals
  pub gone : Gone r currents i coming going first

-- all places of the set are passed: what is told, by the first that overloads and whether every total would stay in
-- range; the totals as they stand then, and what is held. It is held anew from the place i on, unless this is refused
pub record Settled (r : Round) (currents totals : List ℤ) (i : ℕ) (told : Result (Unit {0}) Refusal)
    (totals' currents' : List ℤ) : Type 0 where
  pub told_is : told ≡ judged (first_so r transistors_most) (not (some_outside (standing r currents totals)))
  pub totals_are : totals' ≡ cond (is_ok told) (standing r currents totals) totals
  pub held : currents' ≡ cond (is_ok told) (held_from r currents i) currents
