-- Laws over plain values that the proofs of functions cite.
pub mod Texts
pub mod Explained
