-- What stands at a place, gathered from the flat arrays: a card, and a transistor.
use Rattle.std.specs.Prelude.{Bool, List, [], ℕ, ◌*◌, get_or, replicate, ℤ, pos}
use Rattle.name.specs.Name.{name_length}
use Rattle.deck.specs.OfCard.WorkedCard.{WorkedCard}
use Rattle.deck.specs.OfTerms.Ready.{Ready}
use Rattle.deck.specs.OfTerms.inner.Ready.{no_ready}
use Rattle.deck.specs.OfRows.inner.FromTerms.{list_up}
use Rattle.deck.specs.OfTerms.Rows.{roles, branches}
use Rattle.deck.specs.Stretch.{stretch}
use Rattle.deck.specs.Layout.{ready_at}
use Rattle.places.specs.Counts.{cards_most, transistors_most}

pub record Card : Type 0 where
  pub issue : ℕ
  pub name : List ℕ
  pub ready : Ready

-- it keeps the place of its card beside the card's issue number, and the currents of its branches beside its nodes
pub record Transistor : Type 0 where
  pub issue : ℕ
  pub card : ℕ
  pub seat : ℕ
  pub nodes : List ℕ
  pub currents : List ℤ

-- the card at place i: its issue number, its name, and what the deck's four arrays hold
abbrev pub card_in : List ℕ → List ℕ → List ℕ → List ℕ → List ℕ → List Bool → ℕ → Card
card_in held names numbers powers ticks switches i =
    record {
      issue = get_or held i 0;
      name = stretch 0 names (name_length * i) name_length;
      ready = ready_at numbers powers ticks switches i;
    }

unfoldable pub cards_in : List ℕ → List ℕ → List ℕ → List ℕ → List ℕ → List Bool → List Card
cards_in held names numbers powers ticks switches = list_up (card_in held names numbers powers ticks switches) cards_most 0

-- the transistor at place i: its issue number, its card's, the place of that, its nodes, and the currents held
abbrev pub transistor_in : List ℕ → List ℕ → List ℕ → List ℕ → List ℤ → ℕ → Transistor
transistor_in issues cards seats nodes currents i =
    record {
      issue = get_or issues i 0;
      card = get_or cards i 0;
      seat = get_or seats i 0;
      nodes = stretch 0 nodes (roles * i) roles;
      currents = stretch (pos 0) currents (branches * i) branches;
    }

unfoldable pub transistors_in : List ℕ → List ℕ → List ℕ → List ℕ → List ℤ → List Transistor
transistors_in issues cards seats nodes currents =
    list_up (transistor_in issues cards seats nodes currents) transistors_most 0

-- what an empty place holds, and what is read past the last place
abbrev pub empty_card : Card
empty_card = record { issue = 0; name = replicate name_length 0; ready = no_ready }

abbrev pub no_card : Card
no_card = record { issue = 0; name = []; ready = no_ready }

abbrev pub empty_transistor : Transistor
empty_transistor =
    record { issue = 0; card = 0; seat = 0; nodes = replicate roles 0; currents = replicate branches (pos 0) }

abbrev pub no_transistor : Transistor
no_transistor = record { issue = 0; card = 0; seat = 0; nodes = []; currents = [] }

-- the worked card at a place
abbrev pub worked_at : List Card → ℕ → WorkedCard
worked_at cards i = (get_or cards i no_card).ready.card
