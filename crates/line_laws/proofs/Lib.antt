-- Theorems on model lines: the words of a line that was put together, its keys taken, and reading after writing.
pub mod Joined
pub mod Taking
pub mod Back
pub mod Sound
pub mod Again
pub mod Left
