-- What is handed on.
pub mod OfRows
pub mod OfRowsTypes
pub mod OfDeck
