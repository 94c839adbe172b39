-- A line's room, filled from its start, with so many bytes used.
use Rattle.std.specs.Prelude.{◌≡◌, List, ◌++◌, ℕ, length, take}

-- how many bytes there are: a head has 27 at most, and each of 21 keys with its number 28
abbrev pub line_room : ℕ
line_room = 640

-- the first `at` bytes of old were used, and now the first `to` of new are: the same, and the text after them
pub record Added (old : List ℕ) (at : ℕ) (new : List ℕ) (to : ℕ) (text : List ℕ) : Type 0 where
  pub same : take to new ≡ take at old ++ text
  pub kept : length new ≡ length old
