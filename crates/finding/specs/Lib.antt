-- Finding a record: what each operation answers.
pub mod Answers
pub mod Unique
