-- Theorems on numbers: read after written, no shorter form, worked words.
pub mod Back
pub mod Numbered
pub mod Worked
