-- What of `polarity` this crate hands on to the proofs of those that do not list it.
pub use Rattle.polarity.proofs.Laws
