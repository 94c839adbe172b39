-- Words of inner contracts: what is left of a line after a part of it.
pub mod Passing
