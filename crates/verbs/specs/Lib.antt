-- The table of the commands.
pub mod Table
