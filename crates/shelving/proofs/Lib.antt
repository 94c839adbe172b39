-- Laws over plain values that the proofs of functions cite.
pub mod Shelves
pub mod Mended
pub mod Cards
pub mod Lines
