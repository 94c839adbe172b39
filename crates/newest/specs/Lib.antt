-- The highest issue number of a name: the words of the contract.
pub mod Named
