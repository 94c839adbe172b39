-- `main` counts a row at each turn.
use Rattle.std.proofs.Common.{◌≤◌}
use Rattle.vectors.proofs.main.Given as goal

abbrev pub invariant-loop-done : goal.invariant-loop-done
invariant-loop-done l = (l.good ≤ l.done) × (l.bad ≤ l.done)
