-- The lines of as many numbers as there are.
pub mod Spaced
