-- What the lent arrays of a board hold is what its places hold, and whatever stands can be worked.
use mathlib.Core.Path.{◌≡◌, sym, ap, ◌∙◌, subst}
use mathlib.Core.List.{List}
use Prim.Native.Nat.{ℕ, ◌<◌}
use lib.ListN.{length, get_or}
use Rattle.scaling.specs.Scaled.{tick_limit}
use Rattle.settle.specs.OfTerms.Ready.{Ready}
use Rattle.settle.specs.OfTerms.inner.Ready.{IsReady}
use Rattle.settle.specs.OfTerms.Rows.{roles}
use Rattle.settle.specs.OfTotals.inner.Sums.{Within}
use Rattle.settle.specs.OfDeck.Layout.{ready_at}
use Rattle.settle.specs.OfPlaces.Gathered.{Card, Transistor, transistor_in, no_card}
use Rattle.settle.specs.OfPlaces.laws.Gather.{card_there, transistor_there}
use Rattle.settle.specs.OfFlows.inner.Workable.{Deck, deck_of, card_of, Able}
use Rattle.settle.specs.inner.Working.{card_at, nodes_at, held_at}
use Rattle.model.specs.Board.{Board}
use Rattle.model.specs.Counts.{nodes_most, cards_most, transistors_most}
use Rattle.model.specs.Model.{cards_of, transistors_of, transistor_at, worked_on}
use Rattle.model.proofs.Footing.{Footing}

abbrev pub deck_in : Board → Deck
deck_in b = deck_of b.numbers b.powers b.ticks b.switches

module _ (b : Board) where
  pub ready_there : (s : ℕ) → s < cards_most →
      (get_or (cards_of b) s no_card).ready ≡ ready_at b.numbers b.powers b.ticks b.switches s
  unfolding cards_of
  ready_there s h =
      ap (λ (c : Card). c.ready) (card_there b.held b.names b.numbers b.powers b.ticks b.switches s
      h)

  pub issue_there : (s : ℕ) → s < cards_most → (get_or (cards_of b) s no_card).issue ≡ get_or b.held s 0
  unfolding cards_of
  issue_there s h =
      ap (λ (c : Card). c.issue) (card_there b.held b.names b.numbers b.powers b.ticks b.switches s
      h)

  pub stands_there : (i : ℕ) → i < transistors_most →
      transistor_at b i ≡ transistor_in b.issues b.cards b.seats b.nodes b.currents i
  unfolding transistors_of
  stands_there i h = transistor_there b.issues b.cards b.seats b.nodes b.currents i h

  module _ (g : Footing b) where
    -- a card that is held can be worked on nodes of the board
    pub card_able : (s : ℕ) (nodes : List ℕ) → s < cards_most → ((get_or (cards_of b) s no_card).issue ≡ 0 → ⊥) →
        ((k : ℕ) → get_or nodes k 0 < nodes_most) → length nodes ≡ roles → Able (deck_in b) s nodes
    card_able s nodes h given wired long =
        record {
          there = h;
          ready = subst IsReady (ready_there s h) (g.footed.ready s given);
          wired = wired;
          long = long;
        }

    module _ (i : ℕ) (below : i < transistors_most) (stands : (transistor_at b i).issue ≡ 0 → ⊥) where
      pub seat_there : (transistor_at b i).seat < cards_most
      seat_there = (g.footed.transistor i stands).place_there

      pub able_at : Able (deck_in b) (transistor_at b i).seat (transistor_at b i).nodes
      able_at =
          let s = g.footed.transistor i stands in
          card_able (transistor_at b i).seat (transistor_at b i).nodes seat_there
          (λ z. s.card_given (sym s.card_there ∙ z)) s.wired s.long

      -- what it holds is small
      pub held_small : Within tick_limit (transistor_at b i).currents
      held_small = (g.footed.transistor i stands).small

      -- its card and its nodes by the arrays
      pub worked_there : card_at (deck_in b) b.seats i ≡ worked_on b i
      worked_there =
          ap (card_of (deck_in b)) (sym (ap (λ (t : Transistor). t.seat) (stands_there i below)))
          ∙ sym (ap (λ (r : Ready). r.card) (ready_there (transistor_at b i).seat seat_there))

  pub nodes_there : (i : ℕ) → i < transistors_most → nodes_at b.nodes i ≡ (transistor_at b i).nodes
  nodes_there i h = sym (ap (λ (t : Transistor). t.nodes) (stands_there i h))

  pub held_there : (i : ℕ) → i < transistors_most → held_at b.currents i ≡ (transistor_at b i).currents
  held_there i h = sym (ap (λ (t : Transistor). t.currents) (stands_there i h))
