-- Words of inner contracts: lists with more at each place, and how large their numbers are at most.
pub mod Sizes
pub mod Sums
