-- The numbers as they are judged.
pub mod Filled
