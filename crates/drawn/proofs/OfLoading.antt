-- What of `loading` this crate hands on to the proofs of those that do not list it.
pub use Rattle.loading.proofs.Clipped
pub use Rattle.loading.proofs.Microvolts
pub use Rattle.loading.proofs.Product
pub use Rattle.loading.proofs.Raise
pub use Rattle.loading.proofs.Range
pub use Rattle.loading.proofs.Signs
pub use Rattle.loading.proofs.Whole
