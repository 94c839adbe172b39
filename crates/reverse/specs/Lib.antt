pub mod Sum
pub mod inner
pub mod OfVolts
pub mod OfOctave
pub mod OfOctaveTypes
pub mod OfScaling
