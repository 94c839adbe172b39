use Rattle.std.proofs.Common.{length}
use Rattle.decimal_read.proofs.Parts.{Scanned}
use Rattle.decimal_read.proofs.scan.Given as goal

abbrev pub invariant-loop-t : goal.invariant-loop-t
invariant-loop-t l = Scanned l.minus l.s l.t l.d l.n l.f l.point

abbrev pub decreases-loop-t : goal.decreases-loop-t
decreases-loop-t l = length l.t
