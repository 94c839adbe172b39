-- What of `terms` this crate hands on to those that do not list it.
pub use Rattle.totals.specs.OfTerms.Ends
pub use Rattle.totals.specs.OfTerms.Looked
pub use Rattle.totals.specs.OfTerms.Rows
pub use Rattle.totals.specs.OfTerms.inner
pub use Rattle.totals.specs.OfTerms.Ready
