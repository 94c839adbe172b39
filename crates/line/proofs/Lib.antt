-- Laws over plain values that the proofs of functions cite.
pub mod Heads
pub mod Keyed
pub mod Ends
