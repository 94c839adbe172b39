-- What of `slices` this crate hands on to the proofs of those that do not list it.
pub use Rattle.settle.proofs.OfSlices.Keeping
