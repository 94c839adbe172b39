-- The rows of the first n nodes are written.
use Rattle.page.specs.Page.{Writes}
use Rattle.board.specs.Promise.{state_in}
use Rattle.evening.specs.Said.{rows_to}
use Rattle.evening.proofs.put_rows.Given as goal

abbrev pub invariant-loop-n : goal.invariant-loop-n
invariant-loop-n l =
    Writes (rows_to (state_in l.board l.volts l.totals) l.n) l.initial.page l.page
