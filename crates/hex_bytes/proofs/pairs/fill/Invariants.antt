use Rattle.name.proofs.Laws.{Filled}
use Rattle.hex_bytes.specs.Hex.{pairs_of}
use Rattle.hex_bytes.proofs.pairs.fill.Given as goal

-- the buffer holds the first i bytes, and its own after them
abbrev pub invariant-loop-i : goal.invariant-loop-i
invariant-loop-i l = Filled (pairs_of l.word) l.fn.out l.out l.i
