pub mod Back
pub mod inner
pub mod OfTerms
pub mod OfPolarity
