use Rattle.spelling.proofs.ByteLoops.{Value}
use Rattle.spelling.proofs.numeral.value.Given as goal

abbrev pub invariant-loop-b : goal.invariant-loop-b
invariant-loop-b l = Value l.s l.b-index l.x
