-- Words of inner contracts: how the code works a position.
pub mod Reciprocal
