-- What of `octaves` this crate hands on to those that do not list it.
pub use Rattle.octaves.specs.inner
