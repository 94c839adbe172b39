-- What follows from the definition of words.
pub mod Split
pub mod Next
