-- The two polarities, (4.16): for a PNP every junction's voltage is turned over before the rows see it, and every
-- branch's current after them. No row knows of it.
use Rattle.std.specs.Prelude.{Bool, true, false, Ok, Err, List, map, ℤ, neg_ℤ}
use Rattle.outcome.specs.OfCard.WorkedCard.{WorkedCard}
use Rattle.outcome.specs.OfTerms.Rows.{Role}
use Rattle.outcome.specs.OfTerms.Values.{bias_of}
use Rattle.outcome.specs.OfRows.Outcome.{Outcome, outcome_across}

-- a number as it is, or with its sign turned over
abbrev pub turned : Bool → ℤ → ℤ
turned false x = x
turned true x = neg_ℤ x

-- the voltage of a junction as the rows see it
abbrev pub seen_by : WorkedCard → List ℤ → Role → Role → ℤ
seen_by c volts p q = turned c.pnp (bias_of volts p q)

-- an outcome with its currents so; what overloads is the same
abbrev pub turned_outcome : Bool → Outcome → Outcome
turned_outcome pnp (Ok ticks) = Ok (map (turned pnp) ticks)
turned_outcome pnp (Err o) = Err o

-- the outcome for a worked card at the voltages of its roles
unfoldable pub outcome_of : WorkedCard → List ℤ → Outcome
outcome_of c volts = turned_outcome c.pnp (outcome_across c (seen_by c volts))
