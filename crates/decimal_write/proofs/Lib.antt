-- Laws over plain values that the proofs of functions cite, and that what is written reads back.
pub mod Puts
pub mod Back
