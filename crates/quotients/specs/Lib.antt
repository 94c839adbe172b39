-- Quotients after a shift.
pub mod Quotient
pub mod OfWhole
