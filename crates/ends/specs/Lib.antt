-- What is handed on.
pub mod OfScaling
pub mod OfCard
pub mod OfTerms
