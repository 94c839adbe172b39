-- Laws over plain values that the proofs of functions cite, and that there is one result.
pub mod Unique
