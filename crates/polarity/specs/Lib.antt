pub mod Polarity
pub mod inner
pub mod OfRows
pub mod OfRowsTypes
