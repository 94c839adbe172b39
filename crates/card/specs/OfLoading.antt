-- What of `loading` this crate hands on to those that do not list it.
pub use Rattle.drawn.specs.OfLoading.Knee
pub use Rattle.drawn.specs.OfLoading.Numbers
pub use Rattle.drawn.specs.OfLoading.Octave
pub use Rattle.drawn.specs.OfLoading.inner
pub use Rattle.drawn.specs.OfLoading.laws
