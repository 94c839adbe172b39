-- What is handed on.
pub mod OfScaling
pub mod OfTerms
