-- What of `board` this crate hands on to those that do not list it.
pub use Rattle.fetching.specs.OfBoard.Promise
pub use Rattle.fetching.specs.OfBoard.Board
