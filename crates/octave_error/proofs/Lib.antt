-- How near the exponential is: laws of powers and chords, then the points and the middles, then every position.
pub mod Powers
pub mod Chords
pub mod Nearer
pub mod Positions
