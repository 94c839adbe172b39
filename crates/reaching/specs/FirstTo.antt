-- The first digits that come to a size at one power, and two bounds around them.
use Rattle.std.specs.Prelude.{ℕ, ◌-◌, ◌<◌, ◌≤◌}
use Rattle.decimal.specs.Decimal.{digits_end, size_bits}

-- at the power q, r is the first number above zero that comes to w or beyond it; the end of the digits where none does
pub record FirstTo (w q r : ℕ) : Type 0 where
  pub some : 0 < r
  pub most : r ≤ digits_end
  pub under : 1 < r → size_bits (r - 1) q < w
  pub over : r < digits_end → w ≤ size_bits r q

-- that number is one of those from low to high
pub record Bracket (w q low high : ℕ) : Type 0 where
  pub some : 0 < low
  pub order : low ≤ high
  pub most : high ≤ digits_end
  pub under : 1 < low → size_bits (low - 1) q < w
  pub over : high < digits_end → w ≤ size_bits high q
