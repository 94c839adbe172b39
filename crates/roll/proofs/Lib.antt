-- Laws over plain values that the proofs of functions cite.
pub mod Names
pub mod Chunks
pub mod Marks
pub mod Doubles
