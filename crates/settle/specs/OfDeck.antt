-- What of `deck` this crate hands on to those that do not list it.
pub use Rattle.places.specs.OfDeck.Layout
pub use Rattle.places.specs.OfDeck.Stretch
pub use Rattle.places.specs.OfDeck.laws
