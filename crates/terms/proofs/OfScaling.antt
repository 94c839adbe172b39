-- What of `scaling` this crate hands on to the proofs of those that do not list it.
pub use Rattle.reverse.proofs.OfScaling.Scaling
