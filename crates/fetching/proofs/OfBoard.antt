-- What of `board` this crate hands on to the proofs of those that do not list it.
pub use Rattle.board.proofs.Reaches
pub use Rattle.board.proofs.Whole
