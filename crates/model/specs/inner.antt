-- Words of inner contracts and of what holds of every board: totals worked anew, and arrays of the right lengths.
pub mod Sums
pub mod Sized
