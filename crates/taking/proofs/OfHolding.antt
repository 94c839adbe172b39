-- What of `holding` this crate hands on to the proofs of those that do not list it.
pub use Rattle.holding.proofs.Whole
