-- The line of a clipped record.
pub mod Clipped
