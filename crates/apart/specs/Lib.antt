-- What is handed on.
pub mod OfTerms
