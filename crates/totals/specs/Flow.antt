-- What a transistor does at given voltages: whether it overloads, the currents of its branches, and what it adds to a
-- node. And totals with more at each node.
use Rattle.std.specs.Prelude.{Bool, false, Option, List, [], ◌∷◌, map, ℕ, zero, suc, get_or, ℤ, pos, ◌+ℤ◌}
use Rattle.ends.specs.OfCard.WorkedCard.{WorkedCard}
use Rattle.polarity.specs.OfRowsTypes.Over.{Over}
use Rattle.ends.specs.OfTerms.Rows.{rows_for}
use Rattle.polarity.specs.OfRows.Outcome.{is_over, told_over, told_ticks}
use Rattle.polarity.specs.Polarity.{outcome_of}
use Rattle.polarity.specs.OfRows.inner.FromTerms.{list_up}
use Rattle.totals.specs.Gives.{nodes_most, rows_give}

-- the voltages of its roles
abbrev pub roles_at : List ℤ → List ℕ → List ℤ
roles_at volts nodes = map (λ (n : ℕ). get_or volts n (pos 0)) nodes

-- by which branch it overloads first, if by any
unfoldable pub over_at : WorkedCard → List ℕ → List ℤ → Option Over
over_at c nodes volts = told_over (outcome_of c (roles_at volts nodes))

unfoldable pub overloads : WorkedCard → List ℕ → List ℤ → Bool
unfolding over_at
overloads c nodes volts = is_over (over_at c nodes volts)

-- the currents of its branches, one for each
unfoldable pub ticks_at : WorkedCard → List ℕ → List ℤ → List ℤ
ticks_at c nodes volts = told_ticks (outcome_of c (roles_at volts nodes))

-- what branches of so many ticks give to node n, whatever card they are of: EXSUB moves no end of a branch
unfoldable pub ticks_give : List ℕ → List ℤ → ℕ → ℤ
unfolding rows_give
ticks_give nodes ticks n = rows_give (rows_for false) nodes ticks n

-- what a transistor adds to node n
unfoldable pub flow : WorkedCard → List ℕ → List ℤ → ℕ → ℤ
unfolding ticks_at ticks_give
flow c nodes volts n = ticks_give nodes (ticks_at c nodes volts) n

-- f over a list, and over the numbers below k
unfoldable pub sum_over : {A : Type 0} → (A → ℤ) → List A → ℤ
sum_over f [] = pos 0
sum_over f (a ∷ rest) = f a +ℤ sum_over f rest

unfoldable pub sum_below : (ℕ → ℤ) → ℕ → ℤ
sum_below f zero = pos 0
sum_below f (suc k) = sum_below f k +ℤ f k

-- totals with f n more at each node n
unfoldable pub with_more : List ℤ → (ℕ → ℤ) → List ℤ
unfolding list_up
with_more l f = list_up (λ (n : ℕ). get_or l n (pos 0) +ℤ f n) nodes_most 0
