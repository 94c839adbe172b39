-- What of `octave` this crate hands on to those that do not list it.
pub use Rattle.scaling.specs.OfOctave.Exponential
pub use Rattle.scaling.specs.OfOctave.Position
pub use Rattle.scaling.specs.OfOctave.Table
pub use Rattle.scaling.specs.OfOctave.inner
pub use Rattle.scaling.specs.OfOctave.laws
