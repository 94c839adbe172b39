use borrow.Author.Tests.{eq-eqb, ne_eqb}
use Rattle.places.proofs.Scans.{at_start, passes_on, found_here, found_nowhere}
use Rattle.places.proofs.finds.find.Goals as goal

pub loop-i-init : goal.loop-i-init
loop-i-init g c = at_start

pub returns-then-x-n : goal.returns-then-x-n
returns-then-x-n g c =
    found_here g.row.N c.args.n c.args.numbers.now c.loop-i-test.true (eq-eqb _ _ c.if-x-n.true) c.loop-i.invariant

pub loop-i-preserved : goal.loop-i-preserved
loop-i-preserved g c =
    passes_on g.row.N c.args.n c.args.numbers.now c.loop-i-test.true (ne_eqb _ _ c.if-x-n.false) c.loop-i.invariant

pub returns : goal.returns
returns g c = found_nowhere g.row.N c.args.n c.args.numbers.now c.loop-i-test.false c.loop-i.invariant
