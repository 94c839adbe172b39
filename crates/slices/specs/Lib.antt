-- The two lent slices: what turns them away, what is kept of them, and totals as they would stand.
pub mod Slices
pub mod OfTotals
pub mod OfGiven
