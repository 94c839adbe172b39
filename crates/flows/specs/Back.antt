-- Currents taken out of the totals again.
use Rattle.std.specs.Prelude.{List, ℕ, ℤ, neg_ℤ}
use Rattle.totals.specs.Flow.{ticks_give}

-- what branches of so many ticks give to node n, taken away
unfoldable pub ticks_back : List ℕ → List ℤ → ℕ → ℤ
unfolding ticks_give
ticks_back nodes ticks n = neg_ℤ (ticks_give nodes ticks n)
