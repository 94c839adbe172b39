-- The line that answers a command; `laws` has what follows.
pub mod Answers
pub mod laws
