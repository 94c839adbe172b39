-- What is handed on.
pub mod OfLoading
