-- What follows from the definition of commands.
pub mod Lines
