use Rattle.std.proofs.Common.{◌≡◌}
use Rattle.numbered.specs.Numbers.{numbers_to}
use Rattle.numbered.proofs.numbers_of.Given as goal

abbrev pub invariant-loop-k : goal.invariant-loop-k
invariant-loop-k l = l.numbers ≡ numbers_to l.line l.words l.k
