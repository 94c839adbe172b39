-- Totals worked anew from what stands.
use Rattle.std.specs.Prelude.{cond, List, ℕ, eqb, ℤ, pos}
use Rattle.settle.specs.OfRows.inner.FromTerms.{list_up}
use Rattle.settle.specs.OfTotals.Gives.{nodes_most}
use Rattle.settle.specs.OfTotals.Flow.{flow, sum_over}
use Rattle.settle.specs.OfPlaces.Gathered.{Card, Transistor, worked_at}

-- what a place adds to node n: nothing where it is empty
unfoldable pub place_gives : List Card → List ℤ → ℕ → Transistor → ℤ
place_gives cards volts n t = cond (eqb t.issue 0) (pos 0) (flow (worked_at cards t.seat) t.nodes volts n)

unfoldable pub totals_of : List Card → List Transistor → List ℤ → List ℤ
unfolding list_up sum_over
totals_of cards ts volts = list_up (λ (n : ℕ). sum_over (place_gives cards volts n) ts) nodes_most 0
