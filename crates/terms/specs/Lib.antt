pub mod Rows
pub mod Ends
pub mod Values
pub mod Looked
pub mod inner
pub mod OfScaling
pub mod OfReverse
pub mod OfCard
