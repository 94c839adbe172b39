-- What of `loading` this crate hands on to the proofs of those that do not list it.
pub use Rattle.drawn.proofs.OfLoading.Clipped
pub use Rattle.drawn.proofs.OfLoading.Microvolts
pub use Rattle.drawn.proofs.OfLoading.Product
pub use Rattle.drawn.proofs.OfLoading.Raise
pub use Rattle.drawn.proofs.OfLoading.Range
pub use Rattle.drawn.proofs.OfLoading.Signs
pub use Rattle.drawn.proofs.OfLoading.Whole
