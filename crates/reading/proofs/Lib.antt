pub mod Opens
pub mod Whole
pub mod Shows
pub mod OfLending
