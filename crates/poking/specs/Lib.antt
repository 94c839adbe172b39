-- What a poke writes and says.
pub mod Poked
