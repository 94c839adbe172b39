use Rattle.copying.proofs.BytesWritten.{Storing}
use Rattle.copying.proofs.store.Given as goal

-- the buffer starts with the bytes of the words passed
abbrev pub invariant-loop-i : goal.invariant-loop-i
invariant-loop-i l = Storing l.words l.initial.dst l.dst l.i
