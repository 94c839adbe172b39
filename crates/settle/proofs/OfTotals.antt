-- What of `totals` this crate hands on to the proofs of those that do not list it.
pub use Rattle.places.proofs.OfTotals.Integers
