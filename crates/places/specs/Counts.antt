-- How many places there are.
pub use Rattle.deck.specs.Layout.{cards_most}
use Rattle.std.specs.Prelude.{ℕ}

abbrev pub transistors_most : ℕ
transistors_most = 64
