-- A move on a board's own arrays is the move of that board: with the currents that it leaves, the board is the very one
-- that `desk_move_all` would leave, so that calls leave it; and everything else that is told is the same too.
use mathlib.Core.Path.{refl}
use mathlib.Core.List.{List}
use Prim.Native.Nat.{ℕ}
use lib.IntN.{ℤ}
use Rattle.lending.specs.Lending.{moved_lent}
use Rattle.fetching.specs.OfBoard.Board.{Board}
use Rattle.fetching.specs.OfBoard.Promise.{model_of, board_of, state_in, handed_as, Reached}
use Rattle.fetching.proofs.OfBoard.Whole.{with_held, handed}
use Rattle.fetching.proofs.OfBoard.Reaches.{after_move}
use Rattle.host_moves.proofs.OfHostChanges.Laws.{leaves}
use Rattle.host_moves.specs.Moves.{Moved}
use Rattle.host_lent.specs.InPlace.{MovedInPlace}

module _ (b : Board) (reached : Reached b) (v t pairs : List ℤ) {v' t' c' : List ℤ} {w w' k k' r : ℕ} where
  pub in_place_moves : MovedInPlace (moved_lent (state_in b v t) pairs) v' t' c' w w' k k' r →
      Moved (moved_lent (state_in b v t) pairs) (board_of (with_held (model_of b) c')) v' t' w w' k k' r
  in_place_moves p =
      let l = moved_lent (state_in b v t) pairs in
      let after =
      after_move b reached v t pairs {answer = l.answer} {moved = v'} {left = t'} {currents = c'}
      (record { answer_is = refl; volts_are = p.volts; totals_are = p.totals; currents_are = p.currents }) in
      record {
        leaves =
            leaves (handed_as l) (handed (with_held (model_of b) c') l.answer) after.0 after.1.0 p.result;
        volts = p.volts;
        totals = p.totals;
        who = p.who;
        branch = p.branch;
      }
