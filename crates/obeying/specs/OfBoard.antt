-- What of `board` this crate hands on to those that do not list it.
pub use Rattle.evening.specs.OfBoard.Promise
