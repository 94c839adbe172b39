pub mod Unique
pub mod Refused
pub mod RefusedAsks
pub mod InPlace
