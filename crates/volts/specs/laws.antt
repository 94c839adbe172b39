-- What follows from the definitions of kept voltages.
pub mod Keeping
pub mod Across
