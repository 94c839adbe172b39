-- What is handed on.
pub mod OfScaling
pub mod OfCard
pub mod OfTerms
pub mod OfRows
pub mod OfRowsTypes
