-- Every board that calls leave has a footing, whatever the slices held at each call; and beside slices that are not
-- turned away it is one on which transistors can be worked.
use mathlib.Core.Path.{◌≡◌, sym, subst, ◌∙◌}
use mathlib.Core.Bool.{false}
use mathlib.Core.List.{List, [], ◌∷◌}
use lib.ListN.{length-map}
use lib.IntN.{ℤ}
use Rattle.refusal.specs.Order.{Verdict, no, yes}
use Rattle.volts.specs.Volts.{kept_as}
use Rattle.model.specs.OfSlices.Slices.{off_slices}
use Rattle.model.proofs.OfSlices.Keeping.{volts_long, totals_long, volts_on, all_near}
use Rattle.model.specs.Board.{Board, Answered}
use Rattle.model.specs.declared.Answer.{Answer}
use Rattle.model.specs.Desk.{Call, load, place, move, lift, withdraw, look_up, node, currents, who, sum_up}
use Rattle.model.specs.Model.{cards_of, transistors_of, placed_of, moved_of, lifted_of, showed_of}
use Rattle.model.proofs.Footing.{Footing, Ground, footing_fresh, footing_loaded, footing_placed, footing_moved}
use Rattle.model.proofs.Footing.{footing_lifted, footing_withdrawn, looked_stays, showed_stays, opened_stays}
use Rattle.model.proofs.Footing.{listed_stays, summed_stays}
use Rattle.lending.specs.Rest.{Rest, State, board_in, bare, rest_of}
use Rattle.lending.specs.Lending.{lent_by, changing, change_verdict, seeing, read_verdict, lent_of}
use Rattle.lending.specs.Lending.{placed_lent, moved_lent, lifted_lent, showed_lent}
use Rattle.lending.specs.Reached.{Handed, rest_after, Reached}

-- a footing says nothing of voltages and totals
pub footing_with : {b : Board} → Footing b → (volts totals : List ℤ) →
    Footing (board_in (record { rest = rest_of b; volts = volts; totals = totals }))
unfolding cards_of transistors_of
footing_with g volts totals =
    record {
      sized =
          record {
            numbers = g.sized.numbers;
            powers = g.sized.powers;
            ticks = g.sized.ticks;
            switches = g.sized.switches;
            names = g.sized.names;
            held = g.sized.held;
            issues = g.sized.issues;
            cards = g.sized.cards;
            seats = g.sized.seats;
            nodes = g.sized.nodes;
            naming = g.sized.naming;
            currents = g.sized.currents;
          };
      footed = g.footed;
      named = g.named;
    }

-- ---- each call keeps it

-- what a call leaves behind, where a refusal leaves the state that it was handed
module _ (call : Board → Answered) (keeps : (b : Board) → Footing b → Footing (call b).board) (s : State)
    (g : Footing (bare s.rest)) where
  footing_by : (v : Verdict Answer) → Footing (bare (lent_by s (call (board_in s)) v).state.rest)
  footing_by (no f) = g
  footing_by (yes told) = footing_with (keeps (board_in s) (footing_with g s.volts s.totals)) [] []

  footing_changing : Footing (bare (changing call s).state.rest)
  footing_changing = footing_by (change_verdict s (call (board_in s)))

  footing_seeing : Footing (bare (seeing call s).state.rest)
  footing_seeing = footing_by (read_verdict s (call (board_in s)))

footing_lent : (s : State) (c : Call) → Footing (bare s.rest) → Footing (bare (lent_of s c).state.rest)
unfolding lent_of placed_lent moved_lent lifted_lent showed_lent
footing_lent s (load name bytes) g = footing_with (footing_loaded name bytes g) [] []
footing_lent s (place card nodes sized) g =
    footing_changing (λ (b : Board). placed_of b card nodes) (λ b h. footing_placed card nodes sized h) s g
footing_lent s (move pairs) g = footing_changing (λ (b : Board). moved_of b pairs) (λ b h. footing_moved pairs h) s g
footing_lent s (lift n) g = footing_changing (λ (b : Board). lifted_of b n) (λ b h. footing_lifted n h) s g
footing_lent s (withdraw n) g = footing_with (footing_withdrawn n g) [] []
footing_lent s (look_up name) g = footing_with (subst Footing (sym (looked_stays (bare s.rest) name)) g) [] []
footing_lent s (node n) g =
    footing_seeing (λ (b : Board). showed_of b n) (λ b h. subst Footing (sym (showed_stays b n)) h) s g
footing_lent s (currents n) g = footing_with (subst Footing (sym (opened_stays (bare s.rest) n)) g) [] []
footing_lent s (who n room) g = footing_with (subst Footing (sym (listed_stays (bare s.rest) n room)) g) [] []
footing_lent s (sum_up n) g = footing_with (subst Footing (sym (summed_stays (bare s.rest) n)) g) [] []

footing_after : (calls : List Handed) → Footing (bare (rest_after calls))
unfolding rest_after
footing_after [] = footing_with footing_fresh [] []
footing_after (h ∷ hs) = footing_lent _ h.call (footing_after hs)

pub footing_reached : {r : Rest} → Reached r → Footing (bare r)
footing_reached k = subst (λ (r : Rest). Footing (bare r)) k.leaves (footing_after k.calls)

-- ---- slices that are not turned away

pub ground_in : (s : State) → Reached s.rest → off_slices s.volts s.totals ≡ false → Ground (board_in s)
ground_in s k e =
    record {
      footing = footing_with (footing_reached k) s.volts s.totals;
      kept =
          record {
            long = length-map s.volts kept_as ∙ volts_long s.volts s.totals e;
            near = all_near s.volts (volts_on s.volts s.totals e);
          };
      totals_long = totals_long s.volts s.totals e;
    }
