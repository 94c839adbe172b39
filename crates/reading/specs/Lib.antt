-- What is read of a transistor, and what is handed on.
pub mod Reading
pub mod OfLending
