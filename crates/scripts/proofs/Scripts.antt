-- After any script the board is one that calls left, and stands for the desk after these calls.
use mathlib.Core.Path.{◌≡◌}
use mathlib.Core.List.{List, [], ◌∷◌}
use lib.ListN.{length}
use lib.IntN.{ℤ}
use Rattle.model.specs.Counts.{nodes_most}
use Rattle.model.specs.Desk.{Call, after}
use Rattle.model.specs.Model.{board_after}
use Rattle.lending.specs.Rest.{State, board_in}
use Rattle.lending.specs.Reached.{Own}
use Rattle.days.specs.Stands.{Stands}
use Rattle.days.proofs.Follows.{stands_after}
use Rattle.days.proofs.Methods.{own_board}
use Rattle.scripts.specs.Script.{Line, script_after}
use Rattle.scripts.proofs.Own.{own_fresh, own_obeyed}

module _ (volts totals : List ℤ) (v : length volts ≡ nodes_most) (t : length totals ≡ nodes_most) where
  pub script_own : (ls : List Line) → Own (script_after volts totals ls)
  unfolding script_after
  script_own [] = own_fresh volts totals v t
  script_own (l ∷ ls) = own_obeyed (script_own ls) l.shelf l.command l.bytes l.spelled

  -- so each theorem over calls holds of it
  pub script_follows : (ls : List Line) →
      (board_in (script_after volts totals ls) ≡ board_after (script_own ls).calls)
      × Stands (board_after (script_own ls).calls) (after (script_own ls).calls)
  script_follows ls = (own_board (script_own ls), stands_after (script_own ls).calls)
