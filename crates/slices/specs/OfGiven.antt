-- What of `given` this crate hands on to those that do not list it.
pub use Rattle.given.specs.Lists
