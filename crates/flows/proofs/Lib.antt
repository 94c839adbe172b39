pub mod Currents
pub mod OfTerms
