-- `any_off` stops at the first node that is not on the board.
use lib.Dec.{leb}
use Rattle.totals.specs.Gives.{nodes_most}
use Rattle.places.proofs.Scans.{Passed}
use Rattle.placing.proofs.any_off.Given as goal

abbrev pub invariant-loop-n : goal.invariant-loop-n
invariant-loop-n l = Passed (leb nodes_most) l.on l.n-index
