-- Words of inner contracts: a card filed, its name and its record at hand.
pub mod Cards
