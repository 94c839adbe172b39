-- What totals gain where transistors are worked at the voltages that will be.
use Rattle.std.specs.Prelude.{Bool, cond, List, ℕ, ℤ, pos, ◌+ℤ◌}
use Rattle.card.specs.declared.WorkedCard.{WorkedCard}
use Rattle.places.specs.OfTotals.Flow.{flow, sum_below}
use Rattle.flows.specs.Back.{ticks_back}

-- what node n gains by one transistor: the currents that it holds out, its flow as it will be in
unfoldable pub change_by : WorkedCard → List ℕ → List ℤ → List ℤ → ℕ → ℤ
unfolding ticks_back
change_by c nodes held will n = ticks_back nodes held n +ℤ flow c nodes will n

-- what node n gains by the places below k that are worked: each with its card, its nodes and the currents that it holds
unfoldable pub changes : (ℕ → Bool) → (ℕ → WorkedCard) → (ℕ → List ℕ) → (ℕ → List ℤ) → List ℤ → ℕ → ℕ → ℤ
unfolding sum_below
changes worked card nodes held will k n =
    sum_below (λ (i : ℕ). cond (worked i) (change_by (card i) (nodes i) (held i) will n) (pos 0)) k
