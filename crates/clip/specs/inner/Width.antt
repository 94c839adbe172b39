-- What the loop over a record's words counts on: that there is a record, and how many words it has.
use Rattle.std.specs.Prelude.{◌≡◌, true, List, ℕ}
use Rattle.clip.specs.Record.{right_length, width_of}

-- s is a record of n words
pub record IsRecord (s : List ℕ) (n : ℕ) : Type 0 where
  pub long : right_length s ≡ true
  pub width : width_of s ≡ n
