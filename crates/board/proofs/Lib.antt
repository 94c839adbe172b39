pub mod Reaches
pub mod Whole
