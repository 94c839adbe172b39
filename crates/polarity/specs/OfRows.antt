-- What of `rows` this crate hands on to those that do not list it.
pub use Rattle.outcome.specs.OfRows.Outcome
pub use Rattle.outcome.specs.OfRows.inner
pub use Rattle.outcome.specs.OfRows.laws
