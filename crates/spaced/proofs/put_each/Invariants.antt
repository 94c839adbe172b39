use Rattle.std.proofs.Common.{List, ℕ}
use Rattle.spaced.specs.Spaced.{Spells}
use Rattle.spaced.proofs.Written.{SpacedLeft}
use Rattle.spaced.proofs.put_each.Given as goal

-- what is left to write are those from the one at hand on
abbrev pub invariant-loop-x : goal.invariant-loop-x
invariant-loop-x g l =
    (digits : g.row.T.Denot → List ℕ) → Spells (goal.F-post g l.text) digits l.xs
    → SpacedLeft digits l.xs l.fn.page l.page l.x-index
