-- What of `slices` this crate hands on to the proofs of those that do not list it.
pub use Rattle.slices.proofs.Keeping
pub use Rattle.slices.proofs.Passing
