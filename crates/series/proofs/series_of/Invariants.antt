use Rattle.std.proofs.Common.{length, ◌-◌}
use Rattle.series.proofs.Going.{Gone}
use Rattle.series.proofs.series_of.Given as goal

-- the numbers written so far and the words ahead make the whole series
abbrev pub invariant-loop-span : goal.invariant-loop-span
invariant-loop-span l = Gone l.line l.at l.count l.numbers

abbrev pub decreases-loop-span : goal.decreases-loop-span
decreases-loop-span l = length l.line - l.at
