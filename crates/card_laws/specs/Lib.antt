-- Laws of judging.
pub mod laws
pub mod OfCard
