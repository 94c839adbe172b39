-- What of `host_changes` this crate hands on to the proofs of those that do not list it.
pub use Rattle.host_changes.proofs.Laws
