-- The cards' arrays of a board, lent one by one to the function that works a call, and what it leaves in them.
use Rattle.std.specs.Prelude.{◌≡◌, Bool, List, ℕ, ◌*◌, set}
use Rattle.name.specs.Name.{name_length}
use Rattle.terms.specs.declared.Ready.{Ready}
use Rattle.deck.specs.Stretch.{written}
use Rattle.deck.specs.Layout.{Laid}
use Rattle.places.specs.Gathered.{Card}
use Rattle.model.specs.Board.{Board, Answered}
use Rattle.model.specs.declared.Answer.{Answer}

-- these are the arrays of the board's cards
pub record CardArrays (b : Board) (numbers powers ticks : List ℕ) (switches : List Bool) (names held : List ℕ)
    : Type 0 where
  pub numbers_are : numbers ≡ b.numbers
  pub powers_are : powers ≡ b.powers
  pub ticks_are : ticks ≡ b.ticks
  pub switches_are : switches ≡ b.switches
  pub names_are : names ≡ b.names
  pub held_are : held ≡ b.held

-- what loading and withdrawing leave: an answer, the arrays of the next board's cards, and its next number
pub record LeavesCards (a : Answered) (answer : Answer) (numbers powers ticks : List ℕ) (switches : List Bool)
    (names held : List ℕ) (next : ℕ) : Type 0 where
  pub answer_is : answer ≡ a.answer
  pub cards_are : CardArrays a.board numbers powers ticks switches names held
  pub next_is : next ≡ a.board.next

abbrev pub card_of : ℕ → List ℕ → Ready → Card
card_of issue name ready = record { issue = issue; name = name; ready = ready }

-- the card c written at place i of the six arrays, and nothing else
pub record Holds (i : ℕ) (c : Card) (numbers powers ticks : List ℕ) (switches : List Bool) (names held : List ℕ)
    (numbers' powers' ticks' : List ℕ) (switches' : List Bool) (names' held' : List ℕ) : Type 0 where
  pub laid : Laid i c.ready numbers powers ticks switches numbers' powers' ticks' switches'
  pub named : names' ≡ written 0 names (name_length * i) c.name name_length
  pub given : held' ≡ set held i c.issue
