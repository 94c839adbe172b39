mod Walked
mod Ends
pub mod Sums
