pub mod Changes
pub mod OfBoard
