-- Words of inner contracts: going through a set of places.
pub mod Working
