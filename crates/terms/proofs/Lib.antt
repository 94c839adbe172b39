pub mod Readied
pub mod Eighth
pub mod Series
pub mod Laws
pub mod OfScaling
