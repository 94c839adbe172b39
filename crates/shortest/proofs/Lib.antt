-- Laws over plain values that the proofs of functions cite.
pub mod Powers
pub mod Forms
pub mod OnlyOne
pub mod Fewest
