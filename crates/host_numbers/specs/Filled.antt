-- A buffer with signed numbers at its start, where it has room for all of them.
use Rattle.std.specs.Prelude.{Bool, true, false, List, ◌++◌, length, drop, ℤ}

-- the new numbers at the start of the buffer, if they are put
abbrev pub filled_if : Bool → List ℤ → List ℤ → List ℤ
filled_if true new old = new ++ drop (length new) old
filled_if false new old = old
