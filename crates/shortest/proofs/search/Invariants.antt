use Rattle.std.proofs.Common.{◌≤◌}
use Rattle.decimal.specs.Decimal.{powers_end}
use Rattle.shortest.specs.inner.Search.{NoneAbove}
use Rattle.shortest.proofs.search.Given as goal

-- no power from the one at hand on has a form
abbrev pub invariant-loop-power : goal.invariant-loop-power
invariant-loop-power l = (l.power ≤ powers_end) × NoneAbove l.w l.power
