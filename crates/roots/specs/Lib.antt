-- The whole square root.
pub mod Root
