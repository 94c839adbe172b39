-- Laws over plain values that the proofs of functions cite.
pub mod ByteLoops
pub mod Numerals
