-- Mending a library: what it makes of one, and what it answers.
pub mod Mended
pub mod Answers
pub mod Unique
