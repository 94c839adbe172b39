-- Words of inner contracts: what looking through the flat arrays and sets of places give.
pub mod Parts
pub mod Flat
