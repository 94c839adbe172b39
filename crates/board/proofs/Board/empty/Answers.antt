-- `empty` gives the board of a fresh call.
use mathlib.Core.Path.{refl}
use Rattle.model.specs.Model.{fresh_board}
use Rattle.board.proofs.Board.empty.Goals as goal

pub returns : goal.returns
unfolding fresh_board
returns c = refl
