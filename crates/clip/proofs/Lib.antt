pub mod Taken
pub mod Turn
