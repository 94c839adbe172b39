-- The theorems over scripts.
pub mod Own
pub mod Scripts
