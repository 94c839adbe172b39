pub mod Promise
pub mod Unique
