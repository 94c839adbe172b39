-- What of `loading` this crate hands on to those that do not list it.
pub use Rattle.loading.specs.Numbers
pub use Rattle.loading.specs.Octave
