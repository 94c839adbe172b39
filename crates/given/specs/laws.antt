-- What follows from the definitions of a caller's numbers.
pub mod Pairs
pub mod Larger
