use Rattle.std.proofs.Common.{arith, rules, length, List, ℕ, ◌≡◌, ◌<◌}
use borrow.Author.Tests.{le-leb, lt-leb}
use Rattle.terms.specs.Rows.{roles}
use Rattle.places.proofs.Scans.{at_start, goes_on, any_here, any_nowhere}
use Rattle.placing.proofs.any_off.Goals as goal

inside : (on : List ℕ) {i : ℕ} → length on ≡ roles → i < roles → i < length on
inside on e h = omega arith

pub loop-n-init : goal.loop-n-init
loop-n-init c = at_start

pub returns-then-n-ge-NODES : goal.returns-then-n-ge-NODES
returns-then-n-ge-NODES c = any_here 0 (inside c.args.on.now (search rules) c.loop-n-test.true) (le-leb _ _ c.if-n-ge-NODES.true) c.loop-n.invariant

pub loop-n-preserved : goal.loop-n-preserved
loop-n-preserved c = goes_on 0 (inside c.args.on.now (search rules) c.loop-n-test.true) (lt-leb _ _ c.if-n-ge-NODES.false) c.loop-n.invariant

pub returns : goal.returns
returns c = any_nowhere (let long : length c.args.on.now ≡ roles = search rules in omega arith) c.loop-n.invariant
