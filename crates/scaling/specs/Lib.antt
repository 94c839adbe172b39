pub mod Roles
pub mod Scaled
pub mod inner
pub mod OfQuotients
pub mod OfVolts
pub mod OfOctave
pub mod OfOctaveTypes
