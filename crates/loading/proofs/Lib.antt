pub mod Whole
pub mod Range
pub mod Raise
pub mod Signs
pub mod Clipped
pub mod Microvolts
pub mod Product
