-- Numbers so small that a total, what comes in and less what goes out, stays within 64 bits.
use Rattle.std.specs.Prelude.{ℕ, ◌^◌, ◌<◌, ◌≤◌, List, ℤ, pos, slice_index_or, unsigned_abs}
use Rattle.slices.specs.OfTotals.Gives.{nodes_most}

-- three of this size are below 2^63 together
abbrev pub small_most : ℕ
small_most = 2 ^ 61

pub record Small (v : ℤ) : Type 0 where
  pub size : unsigned_abs v ≤ small_most

-- the three numbers of a node
pub record SmallNode (total coming going : ℤ) : Type 0 where
  pub total_small : Small total
  pub coming_small : Small coming
  pub going_small : Small going

-- the number of every node
pub record EachSmall (l : List ℤ) : Type 0 where
  pub each : (k : ℕ) → k < nodes_most → Small (slice_index_or l k (pos 0))

-- what comes in and what goes out
pub record Near (coming going : List ℤ) : Type 0 where
  pub coming_small : EachSmall coming
  pub going_small : EachSmall going

-- and the totals
pub record AllSmall (totals coming going : List ℤ) : Type 0 where
  pub totals_small : EachSmall totals
  pub near : Near coming going
