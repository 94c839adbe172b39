pub mod Lists
pub mod Arguments
pub mod Pairs
pub mod inner
pub mod laws
pub mod OfTotals
