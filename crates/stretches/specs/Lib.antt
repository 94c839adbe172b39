-- What is handed on.
pub mod OfTotals
pub mod OfGiven
pub mod OfPlaces
