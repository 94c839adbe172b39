-- What of `totals` this crate hands on to those that do not list it.
pub use Rattle.totals.specs.Flow
pub use Rattle.totals.specs.Gives
pub use Rattle.totals.specs.inner
