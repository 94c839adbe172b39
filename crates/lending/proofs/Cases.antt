-- How a call over the two slices ends: turned away for the slices, refused as the board that was refuses, refused for a
-- total that would leave 64 bits, or taken.
use mathlib.Core.Path.{◌≡◌}
use mathlib.Core.Bool.{true, false}
use Rattle.refusal.specs.declared.Refusal.{Refusal}
use Rattle.refusal.specs.declared.Refusal.TheVariants.{OutOfReach, OutOfRange}
use Rattle.refusal.specs.Order.{yes}
use Rattle.model.specs.OfSlices.Slices.{off_slices, some_outside}
use Rattle.model.specs.Board.{Board, Answered}
use Rattle.model.specs.declared.Answer.{Answer}
use Rattle.model.specs.Model as old
use Rattle.lending.specs.Rest.{State, board_in}
use Rattle.lending.specs.Lending.{lent_as, refuse, refusal_in, changing}

-- an answer that is no refusal
abbrev pub Taken : Answer → Type 0
Taken a = refusal_in a ≡ yes a

module _ (call : Board → Answered) (s : State) where
  -- 13 first of all
  pub off_slices_lem : off_slices s.volts s.totals ≡ true → changing call s ≡ refuse s OutOfRange
  off_slices_lem e = rw e

  module _ (on : off_slices s.volts s.totals ≡ false) where
    -- then what the board that was refuses
    pub refused_by : {f : Refusal} → call (board_in s) ≡ old.refuse (board_in s) f → changing call s ≡ refuse s f
    refused_by e = rw (on, e)

    -- and 10 last of all
    pub leaves_64 : Taken (call (board_in s)).answer → some_outside (call (board_in s)).board.totals ≡ true →
        changing call s ≡ refuse s OutOfReach
    leaves_64 t e = rw (on, t, e)

    pub taken_so : Taken (call (board_in s)).answer → some_outside (call (board_in s)).board.totals ≡ false →
        changing call s ≡ lent_as (call (board_in s))
    taken_so t e = rw (on, t, e)
