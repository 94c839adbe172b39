-- Laws of this crate: what turning over does to lists of numbers, and what callers may count on.
pub mod Turned
pub mod Laws
