-- Boards with nothing on them, with something else at one place, and at other levels: how long their arrays are, and
-- what stands at their places.
use mathlib.Core.Path.{◌≡◌, refl, sym, ap, ◌∙◌}
use mathlib.Core.Bool.{false, cond}
use mathlib.Core.List.{List}
use Prim.Native.Nat.{ℕ, zero, ◌*◌, ◌<◌, zero-le}
use lib.ListN.{length, set, replicate, length-set, length-replicate}
use lib.IntN.{ℤ, pos}
use Rattle.name.specs.Name.{name_length}
use Rattle.settle.specs.OfTerms.Rows.{roles, branches}
use Rattle.settle.specs.OfGiven.Pairs.{Shift}
use Rattle.settle.specs.OfDeck.Layout.{numbers_each, powers_each, ticks_each, switches_each}
use Rattle.settle.specs.OfDeck.laws.Stretches.{length_written}
use Rattle.settle.specs.OfPlaces.Gathered.{Card, Transistor, transistor_in, empty_card, empty_transistor}
use Rattle.settle.specs.OfPlaces.laws.Change.{cards_set, cards_fresh, transistors_set, transistors_fresh}
use Rattle.settle.specs.OfPlaces.laws.Gather.{length_transistors, transistor_there}
use Rattle.settle.specs.laws.Renewals.{renewed_long, renewed_at}
use Rattle.settle.proofs.OfFlows.Currents.{ticks_count}
use Rattle.model.specs.Board.{Board}
use Rattle.model.specs.Counts.{nodes_most, cards_most, transistors_most}
use Rattle.model.specs.Model.{cards_of, transistors_of, transistor_at, Levels, touched, settled, current_then}
use Rattle.model.specs.Model.{held_then, leveled, holding, standing, fresh_board}
use Rattle.model.specs.inner.Sized.{Sized}

-- ---- a fresh board

pub sized_fresh : Sized fresh_board
unfolding fresh_board
sized_fresh =
    record {
      numbers = length-replicate (numbers_each * cards_most) zero;
      powers = length-replicate (powers_each * cards_most) zero;
      ticks = length-replicate (ticks_each * cards_most) zero;
      switches = length-replicate (switches_each * cards_most) false;
      names = length-replicate (name_length * cards_most) zero;
      held = length-replicate cards_most zero;
      issues = length-replicate transistors_most zero;
      cards = length-replicate transistors_most zero;
      seats = length-replicate transistors_most zero;
      nodes = length-replicate (roles * transistors_most) zero;
      naming = length-replicate nodes_most zero;
      currents = length-replicate (branches * transistors_most) (pos 0);
    }

pub fresh_cards : cards_of fresh_board ≡ replicate cards_most empty_card
unfolding cards_of fresh_board
fresh_cards =
    cards_fresh cards_most (name_length * cards_most) (numbers_each * cards_most) (powers_each * cards_most)
    (ticks_each * cards_most) (switches_each * cards_most)

pub fresh_transistors : transistors_of fresh_board ≡ replicate transistors_most empty_transistor
unfolding transistors_of fresh_board
fresh_transistors =
    transistors_fresh transistors_most transistors_most transistors_most (roles * transistors_most)
    (branches * transistors_most)

-- ---- something else at one place of a board

module _ (b : Board) (z : Sized b) (p : ℕ) (c : Card) (next : ℕ) where
  pub sized_holding : Sized (holding b p c next)
  sized_holding =
      record {
        numbers = length_written 0 b.numbers (numbers_each * p) _ numbers_each ∙ z.numbers;
        powers = length_written 0 b.powers (powers_each * p) _ powers_each ∙ z.powers;
        ticks = length_written 0 b.ticks (ticks_each * p) _ ticks_each ∙ z.ticks;
        switches = length_written false b.switches (switches_each * p) _ switches_each ∙ z.switches;
        names = length_written 0 b.names (name_length * p) c.name name_length ∙ z.names;
        held = length-set b.held p c.issue ∙ z.held;
        issues = z.issues;
        cards = z.cards;
        seats = z.seats;
        nodes = z.nodes;
        naming = z.naming;
        currents = z.currents;
      }

  pub cards_holding : p < cards_most → length c.name ≡ name_length →
      cards_of (holding b p c next) ≡ set (cards_of b) p c
  unfolding cards_of
  cards_holding h l =
      cards_set b.held b.names b.numbers b.powers b.ticks b.switches p c h l z.held z.names
      z.numbers z.powers z.ticks z.switches

  pub transistors_holding : transistors_of (holding b p c next) ≡ transistors_of b
  unfolding transistors_of
  transistors_holding = refl

module _ (b : Board) (z : Sized b) (p : ℕ) (t : Transistor) (sets : List ℕ) (levels : Levels) (next : ℕ) where
  pub sized_standing : length sets ≡ nodes_most → Sized (standing b p t sets levels next)
  sized_standing n =
      record {
        numbers = z.numbers;
        powers = z.powers;
        ticks = z.ticks;
        switches = z.switches;
        names = z.names;
        held = z.held;
        issues = length-set b.issues p t.issue ∙ z.issues;
        cards = length-set b.cards p t.card ∙ z.cards;
        seats = length-set b.seats p t.seat ∙ z.seats;
        nodes = length_written 0 b.nodes (roles * p) t.nodes roles ∙ z.nodes;
        naming = n;
        currents = length_written (pos 0) b.currents (branches * p) t.currents branches ∙ z.currents;
      }

  pub cards_standing : cards_of (standing b p t sets levels next) ≡ cards_of b
  unfolding cards_of
  cards_standing = refl

  pub transistors_standing : p < transistors_most → length t.nodes ≡ roles → length t.currents ≡ branches →
      transistors_of (standing b p t sets levels next) ≡ set (transistors_of b) p t
  unfolding transistors_of
  transistors_standing h l k =
      transistors_set b.issues b.cards b.seats b.nodes b.currents p t h l k z.issues z.cards
      z.seats z.nodes z.currents

-- ---- other levels

-- a transistor that holds other currents
abbrev pub holds : Transistor → List ℤ → Transistor
holds t held =
    record { issue = t.issue; card = t.card; seat = t.seat; nodes = t.nodes; currents = held }

module _ {b : Board} (z : Sized b) (shifts : List Shift) where
  -- the board after the shifts
  abbrev pub then : Board
  then = leveled b (settled b shifts) (held_then b shifts)

  pub cards_then : cards_of then ≡ cards_of b
  unfolding cards_of
  cards_then = refl

  pub transistors_count : length (transistors_of then) ≡ transistors_most
  unfolding transistors_of
  transistors_count =
      length_transistors b.issues b.cards b.seats b.nodes (held_then b shifts)

  -- whoever is worked holds its new currents, and nothing else changes at a place
  pub transistor_then : (j : ℕ) → j < transistors_most →
      transistor_at then j ≡ holds (transistor_at b j)
      (cond (touched shifts (transistor_at b j)) (current_then b shifts j) (transistor_at b j).currents)
  unfolding transistors_of
  transistor_then j h =
      let was = transistor_there b.issues b.cards b.seats b.nodes b.currents j h in
      let new =
      renewed_at (λ (i : ℕ). touched shifts (transistor_at b i)) (current_then b shifts) b.currents transistors_most
      z.currents (λ i. ticks_count _ _ _) transistors_most 0 j refl zero-le h in
      transistor_there b.issues b.cards b.seats b.nodes (held_then b shifts) j h
      ∙ ap (holds (transistor_in b.issues b.cards b.seats b.nodes b.currents j)) new
      ∙ ap (λ (t : Transistor). holds t (cond (touched shifts (transistor_at b j)) (current_then b shifts j)
      t.currents))
      (sym was)

  pub sized_then : Sized then
  sized_then =
      record {
        numbers = z.numbers;
        powers = z.powers;
        ticks = z.ticks;
        switches = z.switches;
        names = z.names;
        held = z.held;
        issues = z.issues;
        cards = z.cards;
        seats = z.seats;
        nodes = z.nodes;
        naming = z.naming;
        currents =
            renewed_long (λ (i : ℕ). touched shifts (transistor_at b i)) (current_then b shifts) b.currents
            transistors_most 0 ∙ z.currents;
      }
