-- The line of an error is short, so that it has room where it is written.
use Rattle.std.specs.Prelude.{List, ℕ, ◌+◌, ◌≤◌, length}
use Rattle.std.proofs.Common.{arith, length-append, length-take}
use Rattle.quoting.specs.Quotes.{shown_bytes, error_line}

-- the answer to a line that is no command
pub error_room : (first : List ℕ) → length (error_line first) ≤ 7 + shown_bytes
unfolding error_line
error_room first = simp (length-append, length-take) (omega arith)
