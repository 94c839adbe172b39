-- The board stays one that calls from a fresh board leave.
use Rattle.obeying.specs.OfBoard.Promise.{Reached}
use Rattle.desk.proofs.lines.run.Given as goal

abbrev pub invariant-loop : goal.invariant-loop
invariant-loop g l = Reached l.board
