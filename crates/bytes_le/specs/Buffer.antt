-- A lent buffer that is filled from its start.
use Rattle.std.specs.Prelude.{List, ◌++◌, ℕ, length, drop}

-- new, and after it what old has there
abbrev pub over : List ℕ → List ℕ → List ℕ
over new old = new ++ drop (length new) old
