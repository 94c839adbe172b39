-- `apart::resistors::lead` meets its contract: the higher role says which of the two numbers counts.
use native.Mathlib.Omega.{arith}
use borrow.Author.Rules.{rules}
use Rattle.terms.proofs.Series.{led_back, led_there}
use Rattle.apart.proofs.resistors.lead.Goals as goal

pub overflow_cast-b : goal.overflow_cast-b
overflow_cast-b c = let n = c.requires.near.each c.args.q in record { fits = omega arith }

pub through-requires : goal.through-requires
through-requires c =
    let n = c.requires.near.each c.args.q in record { split = c.requires.split; near = omega arith }

pub overflow_cast-a : goal.overflow_cast-a
overflow_cast-a c = let n = c.requires.near.each c.args.p in record { fits = omega arith }

pub through-requires-2 : goal.through-requires-2
through-requires-2 c =
    let n = c.requires.near.each c.args.p in record { split = c.requires.split; near = omega arith }

pub returns-then-a-b : goal.returns-then-a-b
returns-then-a-b c = led_back c.requires c.if-a-b.true c.through.ensures

pub returns : goal.returns
returns c = led_there c.requires c.if-a-b.false c.through-2.ensures
