pub mod Alone
pub mod Going
pub mod OfTerms
pub mod OfTotals
pub mod OfFlows
pub mod OfPlaces
pub mod OfSlices
