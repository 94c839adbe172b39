-- Words of inner contracts: a board's arrays lent beside the two slices.
pub mod Lent
