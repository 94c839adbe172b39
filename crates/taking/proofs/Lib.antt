pub mod Ways
pub mod Cards
pub mod OfHolding
