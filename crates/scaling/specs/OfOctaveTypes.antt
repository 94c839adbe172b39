-- What of `octave` this crate hands on to those that do not list it.
pub use Rattle.octave.specs.declared.Exponential
