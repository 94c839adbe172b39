-- Theorems on polarity.
pub mod Currents
pub mod Totals
