-- The table, positions and the exponential; `inner` has words of inner contracts, `laws` what follows from them all.
pub mod Table
pub mod Position
pub mod Exponential
pub mod inner
pub mod laws
pub mod OfWhole
pub mod OfQuotients
pub mod OfVolts
