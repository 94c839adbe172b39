pub mod OfTotals
