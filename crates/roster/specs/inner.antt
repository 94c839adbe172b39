-- Words of inner contracts: the issue numbers of a set in order, and what listing leaves.
pub mod Lent
