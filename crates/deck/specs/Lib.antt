pub mod Stretch
pub mod Layout
pub mod laws
pub mod OfCard
pub mod OfTerms
pub mod OfRows
pub mod OfRowsTypes
