-- A line without the spaces at its ends.
pub mod Trimmed
