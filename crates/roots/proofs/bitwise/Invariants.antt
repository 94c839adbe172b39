use Rattle.roots.proofs.Bits.{Turn}
use Rattle.roots.proofs.bitwise.Given as goal

-- t has the root's bits from k on
abbrev pub invariant-loop-k : goal.invariant-loop-k
invariant-loop-k l = Turn l.x l.t l.k
