-- What of `loading` this crate hands on to those that do not list it.
pub use Rattle.loading.specs.Knee
pub use Rattle.loading.specs.Numbers
pub use Rattle.loading.specs.Octave
pub use Rattle.loading.specs.inner
pub use Rattle.loading.specs.laws
