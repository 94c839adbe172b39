-- `next_in` counts the zeros below the next digit that is set.
use native.Mathlib.Omega.{arith}
use borrow.Author.Rules.{rules}
use Rattle.sets.proofs.Digits.{next_past, next_none, next_found}
use Rattle.sets.proofs.next_in.Goals as goal

pub returns-then-from-ge-TRANSISTORS : goal.returns-then-from-ge-TRANSISTORS
returns-then-from-ge-TRANSISTORS c = next_past c.args.set c.args.from (omega arith)

pub returns-then-rest-eq0 : goal.returns-then-rest-eq0
returns-then-rest-eq0 c = next_none c.args.set c.args.from c.if-rest-eq0.true

pub returns : goal.returns
returns c = rw c.zeros_below.ensures.0 (next_found c.args.set c.args.from (search rules) (omega arith))
