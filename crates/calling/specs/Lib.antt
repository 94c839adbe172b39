-- A command's call of the board.
pub mod Calls
pub mod OfFetching
pub mod OfAsking
