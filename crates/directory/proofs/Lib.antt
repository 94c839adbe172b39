-- Laws over plain values that the proofs of functions cite.
pub mod Verdicts
pub mod Headers
pub mod Inspections
pub mod Offers
