-- The answer on the second octave.
pub mod Second
