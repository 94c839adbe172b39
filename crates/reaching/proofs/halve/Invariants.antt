use Rattle.std.proofs.Common.{◌-◌}
use Rattle.reaching.specs.FirstTo.{Bracket}
use Rattle.reaching.proofs.halve.Given as goal

-- what is looked for lies from low to high
abbrev pub invariant-loop-low : goal.invariant-loop-low
invariant-loop-low l = Bracket l.w l.q l.low l.high

abbrev pub decreases-loop-low : goal.decreases-loop-low
decreases-loop-low l = l.high - l.low
