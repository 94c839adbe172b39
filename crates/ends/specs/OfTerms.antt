-- What of `terms` this crate hands on to those that do not list it.
pub use Rattle.terms.specs.Ends
pub use Rattle.terms.specs.Looked
pub use Rattle.terms.specs.Rows
pub use Rattle.terms.specs.inner
pub use Rattle.terms.specs.declared.Ready
