-- What a line of a script says; `laws` has what follows.
pub mod Command
pub mod Unique
pub mod laws
