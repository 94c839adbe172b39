-- What follows from the definitions.
pub mod Ups
pub mod Stretches
pub mod Laid
