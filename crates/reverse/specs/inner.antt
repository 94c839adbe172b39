-- Words of inner contracts: a branch's two numbers.
pub mod Pairs
