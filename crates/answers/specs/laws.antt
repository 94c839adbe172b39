-- What follows from the definitions of answers.
pub mod Rooms
