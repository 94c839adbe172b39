-- Theorems on explanations: the ends of branches, the words of a line, digits as words, and refusals explained.
pub mod Ends
pub mod FourWords
pub mod Digits
pub mod Refusals
