pub mod WorkedCards
pub mod Unsigned
pub mod Versions
