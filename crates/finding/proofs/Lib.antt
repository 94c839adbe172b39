-- Laws over plain values that the proofs of functions cite.
pub mod Places
pub mod Locating
pub mod HandingOut
