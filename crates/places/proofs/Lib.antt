pub mod Scans
pub mod OfTotals
