-- The numbers of a line after its first word.
pub mod Series
