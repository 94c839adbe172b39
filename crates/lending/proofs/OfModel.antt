-- What of `model` this crate hands on to the proofs of those that do not list it.
pub use Rattle.model.proofs.Footing
pub use Rattle.model.proofs.Found
pub use Rattle.model.proofs.Gains
pub use Rattle.model.proofs.Lent
pub use Rattle.model.proofs.Shifts
pub use Rattle.model.proofs.Verdicts
