-- What working a transistor asks, and gives.
use Rattle.std.specs.Prelude.{◌≡◌, Bool, List, map, ℕ, ◌<◌, get_or, length, ℤ}
use Rattle.volts.specs.Volts.{AllNear}
use Rattle.octave.specs.Table.{entries}
use Rattle.card.specs.declared.WorkedCard.{WorkedCard}
use Rattle.totals.specs.OfTerms.inner.Ready.{IsReady}
use Rattle.totals.specs.OfTerms.Rows.{roles}
use Rattle.dealing.specs.OfRows.Outcome.{Outcome, told_over, told_ticks}
use Rattle.totals.specs.Gives.{nodes_most}
use Rattle.totals.specs.Flow.{over_at, ticks_at}
use Rattle.dealing.specs.OfDeck.Layout.{ready_at, cards_most}

-- the kept voltages of a transistor's roles
abbrev pub roles_of : List ℕ → List ℕ → List ℕ
roles_of volts nodes = map (λ (n : ℕ). get_or volts n 0) nodes

-- kept voltages of all nodes
pub record Volts (volts : List ℕ) : Type 0 where
  pub long : length volts ≡ nodes_most
  pub near : AllNear volts

-- the deck: the four arrays of the cards' numbers
pub record Deck : Type 0 where
  pub numbers : List ℕ
  pub powers : List ℕ
  pub ticks : List ℕ
  pub switches : List Bool

abbrev pub deck_of : List ℕ → List ℕ → List ℕ → List Bool → Deck
deck_of numbers powers ticks switches =
    record { numbers = numbers; powers = powers; ticks = ticks; switches = switches }

-- the worked card at place s of the deck
abbrev pub card_of : Deck → ℕ → WorkedCard
card_of d s = (ready_at d.numbers d.powers d.ticks d.switches s).card

-- a card and nodes whose currents can be worked
pub record Able (d : Deck) (s : ℕ) (nodes : List ℕ) : Type 0 where
  pub there : s < cards_most
  pub ready : IsReady (ready_at d.numbers d.powers d.ticks d.switches s)
  pub wired : (k : ℕ) → get_or nodes k 0 < nodes_most
  pub long : length nodes ≡ roles

-- and voltages to work them at
pub record Workable (table : List ℕ) (d : Deck) (s : ℕ) (nodes volts : List ℕ) : Type 0 where
  pub table_is : table ≡ entries
  pub able : Able d s nodes
  pub volts_are : Volts volts

-- o is what a transistor of the card c on these nodes does at these voltages
pub record Works (c : WorkedCard) (nodes : List ℕ) (volts : List ℤ) (o : Outcome) : Type 0 where
  pub over : told_over o ≡ over_at c nodes volts
  pub ticks : told_ticks o ≡ ticks_at c nodes volts
