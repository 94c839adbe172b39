pub mod Told
pub mod Order
pub mod Clash
pub mod Unique
