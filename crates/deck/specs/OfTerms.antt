-- What of `terms` this crate hands on to those that do not list it.
pub use Rattle.rows.specs.OfTerms.Rows
pub use Rattle.rows.specs.OfTerms.inner
pub use Rattle.rows.specs.OfTerms.Ready
