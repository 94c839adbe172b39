-- What of `octave` this crate hands on to those that do not list it.
pub use Rattle.octave.specs.Exponential
pub use Rattle.octave.specs.Position
pub use Rattle.octave.specs.Table
pub use Rattle.octave.specs.inner
pub use Rattle.octave.specs.laws
