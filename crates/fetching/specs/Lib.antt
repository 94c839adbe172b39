-- A card loaded from where it is written.
pub mod Fetched
pub mod OfBoard
