-- How many there are: the board's nodes, and its places of cards and of transistors.
pub use Rattle.settle.specs.OfTotals.Gives.{nodes_most}
pub use Rattle.settle.specs.OfPlaces.Counts.{cards_most, transistors_most}
