-- The board stays one that calls from a fresh board leave.
use Rattle.obeying.specs.OfBoard.Promise.{Reached}
use Rattle.desk.proofs.lines.feed.Given as goal

abbrev pub invariant-loop-b : goal.invariant-loop-b
invariant-loop-b l = Reached l.current
