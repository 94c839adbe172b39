pub mod Word
pub mod Split
