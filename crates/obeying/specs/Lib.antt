-- A command obeyed: what it says and what it leaves.
pub mod Obeyed
pub mod Unique
pub mod OfBoard
pub mod OfFetching
pub mod OfAsking
