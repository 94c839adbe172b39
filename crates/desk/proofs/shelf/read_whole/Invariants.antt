-- No more is read than the buffer has room for, and each turn reads a byte at least.
use Rattle.std.proofs.Common.{◌-◌, ◌≤◌, length}
use Rattle.desk.proofs.shelf.read_whole.Given as goal

abbrev pub invariant-loop-n : goal.invariant-loop-n
invariant-loop-n g l = l.n ≤ length l.bytes

abbrev pub decreases-loop-n : goal.decreases-loop-n
decreases-loop-n g l = 53265 - l.n
