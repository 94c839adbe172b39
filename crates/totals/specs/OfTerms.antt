-- What of `terms` this crate hands on to those that do not list it.
pub use Rattle.ends.specs.OfTerms.Ends
pub use Rattle.ends.specs.OfTerms.Looked
pub use Rattle.ends.specs.OfTerms.Rows
pub use Rattle.ends.specs.OfTerms.inner
pub use Rattle.ends.specs.OfTerms.Ready
