-- What of `scaling` this crate hands on to those that do not list it.
pub use Rattle.scaling.specs.Roles
pub use Rattle.scaling.specs.Scaled
pub use Rattle.scaling.specs.inner
