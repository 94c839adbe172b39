-- What of `deck` this crate hands on to those that do not list it.
pub use Rattle.deck.specs.Layout
pub use Rattle.deck.specs.Stretch
pub use Rattle.deck.specs.laws
