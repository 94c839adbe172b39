pub mod Work
pub mod OfRefusal
pub mod OfClip
