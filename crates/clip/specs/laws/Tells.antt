-- The number that clipping tells is that of the first test that fails; 0 where the record is taken.
use Rattle.std.specs.Prelude.{◌≡◌, not, List, ℕ}
use Rattle.refusal.specs.Order.{number_told, number_if, number_first}
use Rattle.clip.specs.Record.{right_length, width_of, finite_up}
use Rattle.clip.specs.Clip.{clip_of}

abbrev pub clip_number : List ℕ → ℕ
clip_number s = number_if (not (right_length s)) 1 (number_if (not (finite_up s (width_of s))) 6 0)

pub clip_tells : (s : List ℕ) → number_told (clip_of s) ≡ clip_number s
unfolding clip_of
clip_tells s = simp number_first
