-- What of `totals` this crate hands on to those that do not list it.
pub use Rattle.given.specs.OfTotals.Flow
pub use Rattle.given.specs.OfTotals.Gives
pub use Rattle.given.specs.OfTotals.inner
