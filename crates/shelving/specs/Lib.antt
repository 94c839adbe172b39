-- The library held, and what is said of it.
pub mod Shelf
pub mod Apart
