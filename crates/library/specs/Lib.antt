-- The library: what each operation answers.
pub mod Answers
pub mod Unique
