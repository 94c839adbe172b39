-- Boards as calls leave them, whatever the slices held at each call; and states as a fresh call and only the calls of
-- one board leave them, each with the newest value.
use Rattle.std.specs.Prelude.{◌≡◌, List, [], ◌∷◌, length, ℤ}
use Rattle.model.specs.Counts.{nodes_most}
use Rattle.model.specs.Desk.{Call}
use Rattle.lending.specs.Rest.{Rest, State}
use Rattle.lending.specs.Lending.{fresh_rest, fresh_lent, lent_of}

-- a call, and the two slices that it was handed
pub record Handed : Type 0 where
  pub volts : List ℤ
  pub totals : List ℤ
  pub call : Call

-- the board after calls from a fresh one, the last call first in the list
unfoldable pub rest_after : List Handed → Rest
unfolding lent_of
rest_after [] = fresh_rest
rest_after (h ∷ hs) =
    (lent_of (record { rest = rest_after hs; volts = h.volts; totals = h.totals }) h.call).state.rest

-- some calls leave this board; of the slices nothing is said
pub record Reached (r : Rest) : Type 0 where
  pub calls : List Handed
  pub leaves : rest_after calls ≡ r

-- the state after a fresh call over these slices and further calls over what it left, the last call first in the list
unfoldable pub state_after : List ℤ → List ℤ → List Call → State
unfolding lent_of fresh_lent
state_after volts totals [] = (fresh_lent volts totals).state
state_after volts totals (c ∷ cs) = (lent_of (state_after volts totals cs) c).state

-- a board and slices that are its own: its taken fresh call filled them, and only its calls have written them since,
-- each with the newest board
pub record Own (s : State) : Type 0 where
  pub volts : List ℤ
  pub totals : List ℤ
  pub volts_long : length volts ≡ nodes_most
  pub totals_long : length totals ≡ nodes_most
  pub calls : List Call
  pub leaves : state_after volts totals calls ≡ s
