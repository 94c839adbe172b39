pub mod Queries
pub mod OfBoard
