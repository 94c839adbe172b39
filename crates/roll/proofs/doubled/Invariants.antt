use Rattle.roll.proofs.Doubles.{Marked}
use Rattle.roll.proofs.doubled.Given as goal

-- of the names from place i on none stands twice, and each has its mark
abbrev pub invariant-loop-i : goal.invariant-loop-i
invariant-loop-i l = Marked l.d l.marks l.i
