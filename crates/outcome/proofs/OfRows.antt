-- What of `rows` this crate hands on to the proofs of those that do not list it.
pub use Rattle.rows.proofs.Laws
