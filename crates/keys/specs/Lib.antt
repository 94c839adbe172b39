-- The keys of a model line.
pub mod Keys
