-- What is said of the board's answers.
pub mod Said
