-- What follows from the definitions of quoting lines.
pub mod Rooms
