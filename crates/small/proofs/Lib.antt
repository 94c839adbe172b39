mod Small
pub mod OfSlices
