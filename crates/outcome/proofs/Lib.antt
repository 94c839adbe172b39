-- Laws over plain values that the proofs of functions cite.
pub mod RowLaws
pub mod Loops
pub mod OfRows
