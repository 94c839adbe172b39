pub mod Words
pub mod Cases
