use Rattle.std.proofs.Common.{drop}
use Rattle.bytes_le.proofs.Laws.{Down}
use Rattle.bytes_le.proofs.number.Given as goal

-- x is the number in the bytes from i to the width
abbrev pub invariant-loop-i : goal.invariant-loop-i
invariant-loop-i l = Down (drop l.at l.s) l.w l.i l.x
