-- What of `board` this crate hands on to those that do not list it.
pub use Rattle.board.specs.Promise
pub use Rattle.board.specs.declared.Board
