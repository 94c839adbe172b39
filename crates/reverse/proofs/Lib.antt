pub mod Sums
pub mod Standing
pub mod OfScaling
