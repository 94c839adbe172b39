pub mod Ticks
pub mod Outcome
pub mod inner
pub mod laws
pub mod OfScaling
pub mod OfCard
pub mod OfTerms
