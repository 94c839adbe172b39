use Rattle.std.proofs.Common.{◌-◌, length}
use Rattle.line.specs.Line.{taken}
use Rattle.line.proofs.Keyed.{Going}
use Rattle.line_keys.proofs.take_keys.Given as goal

-- what is left of the line comes to what the whole of it does
abbrev pub invariant-loop-span : goal.invariant-loop-span
invariant-loop-span l = Going l.line l.from (taken l.initial.words l.initial.given) (taken l.words l.given) l.at

abbrev pub decreases-loop-span : goal.decreases-loop-span
decreases-loop-span l = length l.line - l.at
