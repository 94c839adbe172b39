use Rattle.std.proofs.Common.{drop}
use Rattle.sheet.proofs.ByteLoops.{Left}
use Rattle.sheet.proofs.Text.append.Given as goal

-- what is left to add are the bytes from the one at hand on
abbrev pub invariant-loop-b : goal.invariant-loop-b
invariant-loop-b l = Left l.fn.self l.s l.self (drop l.b-index l.s)
