-- How near a mantissa is to the power of two that it stands for, in whole numbers.
use Rattle.std.specs.Prelude.{ℕ, suc, ◌+◌, ◌*◌, ◌^◌, ◌<◌}
use Rattle.octave.specs.Table.{places}

-- of how many parts of itself the exact power may be exceeded by less than one
abbrev pub million : ℕ
million = 1000000

-- m stands for 2^(places + k / d): it is above that by less than a millionth of it, and below it by less than one unit.
-- Both comparisons are of d-th powers, which are whole numbers.
pub record Near (d k m : ℕ) : Type 0 where
  pub above : (million * m) ^ d < suc million ^ d * 2 ^ (places * d + k)
  pub below : 2 ^ (places * d + k) < suc m ^ d
