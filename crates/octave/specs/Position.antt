-- The position of a voltage on the scale of an octave, and its whole and fractional parts.
-- V is in microvolts, the octave w in nanovolts.
use Rattle.std.specs.Prelude.{ℕ, ◌*◌, ◌≤◌, ℤ, pos, ◌*ℤ◌}
use Rattle.quotients.specs.OfWhole.Floor.{floor_div, floor_mod}
use Rattle.octave.specs.Table.{parts}

-- nanovolts in a microvolt
abbrev pub nanovolts : ℕ
nanovolts = 1000

-- p: V / w in parts of an octave, rounded downward
abbrev pub position_of : ℤ → ℕ → ℤ
position_of v w = floor_div (v *ℤ pos (nanovolts * parts)) w

-- n: the whole octaves in p
abbrev pub whole_of : ℤ → ℕ → ℤ
whole_of v w = floor_div (position_of v w) parts

-- f: the parts left
abbrev pub part_of : ℤ → ℕ → ℕ
part_of v w = floor_mod (position_of v w) parts

-- the octaves for which the desk works: 1 mV to 1 V
abbrev pub octave_from : ℕ
octave_from = 1000000

abbrev pub octave_to : ℕ
octave_to = 1000000000

pub record InRange (w : ℕ) : Type 0 where
  pub least : octave_from ≤ w
  pub most : w ≤ octave_to
