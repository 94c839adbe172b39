-- Arrays of a board, lent one by one beside the two slices to the function that works a call, and what it leaves in
-- them.
use Rattle.std.specs.Prelude.{◌≡◌, Bool, List, ℕ, ℤ}
use Rattle.model.specs.declared.Answer.{Answer}
use Rattle.lending.specs.Rest.{Rest, State}
use Rattle.lending.specs.Lending.{Lent}

-- a board and the numbers in the two slices
abbrev pub state_with : Rest → List ℤ → List ℤ → State
state_with r volts totals = record { rest = r; volts = volts; totals = totals }

-- what working transistors reads: the cards' numbers, who stands where and who names which node, and the currents held
pub record Lends (r : Rest) (numbers powers ticks : List ℕ) (switches : List Bool) (issues seats nodes naming : List ℕ)
    (currents : List ℤ) : Type 0 where
  pub numbers_are : numbers ≡ r.numbers
  pub powers_are : powers ≡ r.powers
  pub ticks_are : ticks ≡ r.ticks
  pub switches_are : switches ≡ r.switches
  pub issues_are : issues ≡ r.issues
  pub seats_are : seats ≡ r.seats
  pub nodes_are : nodes ≡ r.nodes
  pub naming_are : naming ≡ r.naming
  pub currents_are : currents ≡ r.currents

-- and what placing reads besides: the cards' issue numbers, each transistor's card, and the next number
pub record LendsPlaces (r : Rest) (numbers powers ticks : List ℕ) (switches : List Bool) (held issues cards seats nodes
    naming : List ℕ) (currents : List ℤ) (next : ℕ) : Type 0 where
  pub lends : Lends r numbers powers ticks switches issues seats nodes naming currents
  pub held_are : held ≡ r.held
  pub cards_are : cards ≡ r.cards
  pub next_is : next ≡ r.next

-- what lifting reads, and changes: the places of transistors, the sets, and the currents held
pub record LendsStanding (r : Rest) (issues cards seats nodes naming : List ℕ) (currents : List ℤ) : Type 0 where
  pub issues_are : issues ≡ r.issues
  pub cards_are : cards ≡ r.cards
  pub seats_are : seats ≡ r.seats
  pub nodes_are : nodes ≡ r.nodes
  pub naming_are : naming ≡ r.naming
  pub currents_are : currents ≡ r.currents

-- what a move leaves: an answer, both slices, and the currents held
pub record LeavesLevels (a : Lent) (answer : Answer) (volts totals currents : List ℤ) : Type 0 where
  pub answer_is : answer ≡ a.answer
  pub volts_are : volts ≡ a.state.volts
  pub totals_are : totals ≡ a.state.totals
  pub currents_are : currents ≡ a.state.rest.currents

-- what placing and lifting leave: an answer, the places of transistors, the sets, the totals and the next number
pub record LeavesPlaces (a : Lent) (answer : Answer) (issues cards seats nodes naming : List ℕ)
    (totals currents : List ℤ) (next : ℕ) : Type 0 where
  pub answer_is : answer ≡ a.answer
  pub issues_are : issues ≡ a.state.rest.issues
  pub cards_are : cards ≡ a.state.rest.cards
  pub seats_are : seats ≡ a.state.rest.seats
  pub nodes_are : nodes ≡ a.state.rest.nodes
  pub naming_are : naming ≡ a.state.rest.naming
  pub totals_are : totals ≡ a.state.totals
  pub currents_are : currents ≡ a.state.rest.currents
  pub next_is : next ≡ a.state.rest.next
