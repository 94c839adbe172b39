-- Laws over plain values that the proofs of functions cite.
pub mod Exact
pub mod Order
pub mod Signs
