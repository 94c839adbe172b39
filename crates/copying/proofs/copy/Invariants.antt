use Rattle.name.proofs.Laws.{Filled}
use Rattle.copying.proofs.copy.Given as goal

-- the buffer starts with the bytes passed
abbrev pub invariant-loop-i : goal.invariant-loop-i
invariant-loop-i l = Filled l.src l.initial.dst l.dst l.i
