-- What of `totals` this crate hands on to those that do not list it.
pub use Rattle.places.specs.OfTotals.Flow
pub use Rattle.places.specs.OfTotals.Gives
pub use Rattle.places.specs.OfTotals.inner
