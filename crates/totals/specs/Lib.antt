pub mod Gives
pub mod Flow
pub mod inner
pub mod OfCard
pub mod OfTerms
pub mod OfRows
pub mod OfPolarity
