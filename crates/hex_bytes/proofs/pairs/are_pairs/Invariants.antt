use Rattle.std.proofs.Common.{length}
use Rattle.hex_bytes.proofs.HexPairs.{Same}
use Rattle.hex_bytes.proofs.pairs.are_pairs.Given as goal

-- all pairs that were passed are digits
abbrev pub invariant-loop-t : goal.invariant-loop-t
invariant-loop-t l = Same l.word l.t

abbrev pub decreases-loop-t : goal.decreases-loop-t
decreases-loop-t l = length l.t
