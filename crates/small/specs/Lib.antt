pub mod inner
pub mod OfSlices
