-- What of `totals` this crate hands on to those that do not list it.
pub use Rattle.settle.specs.OfTotals.Flow
pub use Rattle.settle.specs.OfTotals.Gives
pub use Rattle.settle.specs.OfTotals.inner
