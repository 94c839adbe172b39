pub mod Words
pub mod Difference
pub mod Digits
pub mod Units
pub mod Kept
