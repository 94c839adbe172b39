-- What follows from the definitions.
pub mod Members
pub mod Walks
pub mod Founds
pub mod Gather
pub mod Change
