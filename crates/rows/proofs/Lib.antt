-- Laws over plain values that the proofs of functions and other crates cite.
pub mod Tests
pub mod Roots
pub mod Laws
