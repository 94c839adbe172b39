-- What is handed on.
pub mod OfLending
