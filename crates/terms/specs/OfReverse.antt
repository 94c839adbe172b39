-- What of `reverse` this crate hands on to those that do not list it.
pub use Rattle.reverse.specs.Sum
