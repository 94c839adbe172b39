-- What is handed on.
pub mod OfClip
pub mod OfWorking
pub mod OfLoading
