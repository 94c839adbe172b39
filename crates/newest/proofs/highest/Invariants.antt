-- `highest` goes from the last place to the first; what it has is the highest of those behind it.
use Rattle.std.proofs.Common.{◌≡◌, drop}
use Rattle.given.specs.Lists.{largest}
use Rattle.newest.proofs.Parts.{named}
use Rattle.newest.proofs.highest.Given as goal

abbrev pub invariant-loop-i : goal.invariant-loop-i
invariant-loop-i l = l.best ≡ largest (drop l.i (named l.asked l.held l.names))
