-- Laws over plain values that the proofs of functions cite.
pub mod Others
pub mod Nodes
pub mod Written
