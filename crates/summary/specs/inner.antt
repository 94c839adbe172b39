-- Words of inner contracts: what is told of the places of a set.
pub mod Told
