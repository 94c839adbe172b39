-- What of `slices` this crate hands on to the proofs of those that do not list it.
pub use Rattle.small.proofs.OfSlices.Keeping
pub use Rattle.small.proofs.OfSlices.Passing
