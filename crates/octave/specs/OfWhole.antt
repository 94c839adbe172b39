-- What of `whole` this crate hands on to those that do not list it.
pub use Rattle.quotients.specs.OfWhole.Scale
pub use Rattle.quotients.specs.OfWhole.laws
