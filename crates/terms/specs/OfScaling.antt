-- What of `scaling` this crate hands on to those that do not list it.
pub use Rattle.reverse.specs.OfScaling.Scaled
pub use Rattle.reverse.specs.OfScaling.inner
