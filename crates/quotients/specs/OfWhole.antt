-- What of `whole` this crate hands on to those that do not list it.
pub use Rattle.whole.specs.Floor
pub use Rattle.whole.specs.Scale
pub use Rattle.whole.specs.laws
