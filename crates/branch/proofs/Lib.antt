pub mod Kept
pub mod Replying
