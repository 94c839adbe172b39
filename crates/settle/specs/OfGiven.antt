-- What of `given` this crate hands on to those that do not list it.
pub use Rattle.places.specs.OfGiven.Arguments
pub use Rattle.places.specs.OfGiven.Lists
pub use Rattle.places.specs.OfGiven.Pairs
pub use Rattle.places.specs.OfGiven.inner
