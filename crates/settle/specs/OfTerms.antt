-- What of `terms` this crate hands on to those that do not list it.
pub use Rattle.flows.specs.OfTerms.Ends
pub use Rattle.flows.specs.OfTerms.Looked
pub use Rattle.flows.specs.OfTerms.Rows
pub use Rattle.flows.specs.OfTerms.inner
pub use Rattle.flows.specs.OfTerms.Ready
