-- The words of inner contracts: no public promise cites them.
pub mod Marks
