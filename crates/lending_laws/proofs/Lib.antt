pub mod Slices
pub mod Old
