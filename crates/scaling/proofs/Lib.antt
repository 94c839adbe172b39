pub mod Scaling
pub mod Junctions
