-- The text that is written for a number, and texts put one after the other.
pub mod Written
pub mod Added
