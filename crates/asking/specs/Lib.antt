-- What each call that a command makes gives.
pub mod Asked
pub mod Unique
pub mod OfBoard
pub mod OfFetching
