-- A board's arrays are as long as they are declared; its voltages and totals are spoken of elsewhere.
use Rattle.std.specs.Prelude.{◌≡◌, ◌*◌, length}
use Rattle.name.specs.Name.{name_length}
use Rattle.settle.specs.OfTerms.Rows.{roles, branches}
use Rattle.settle.specs.OfDeck.Layout.{numbers_each, powers_each, ticks_each, switches_each}
use Rattle.model.specs.Board.{Board}
use Rattle.model.specs.Counts.{nodes_most, cards_most, transistors_most}

pub record Sized (b : Board) : Type 0 where
  pub numbers : length b.numbers ≡ numbers_each * cards_most
  pub powers : length b.powers ≡ powers_each * cards_most
  pub ticks : length b.ticks ≡ ticks_each * cards_most
  pub switches : length b.switches ≡ switches_each * cards_most
  pub names : length b.names ≡ name_length * cards_most
  pub held : length b.held ≡ cards_most
  pub issues : length b.issues ≡ transistors_most
  pub cards : length b.cards ≡ transistors_most
  pub seats : length b.seats ≡ transistors_most
  pub nodes : length b.nodes ≡ roles * transistors_most
  pub naming : length b.naming ≡ nodes_most
  pub currents : length b.currents ≡ branches * transistors_most
