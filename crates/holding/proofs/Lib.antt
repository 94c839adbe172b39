pub mod Cards
pub mod Whole
