-- What follows from the definitions.
pub mod Places
