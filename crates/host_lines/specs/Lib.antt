-- What is handed on.
pub mod OfFetching
