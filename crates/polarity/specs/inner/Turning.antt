-- Turning over as the code does it: kept voltages, and ticks that are not near the ends of 64 bits.
use Rattle.std.specs.Prelude.{Bool, true, false, List, ℕ, ◌-◌, ◌≤◌, get_or, ℤ, pos, nat_abs}
use Rattle.volts.specs.Volts.{span}
use Rattle.outcome.specs.OfScaling.Scaled.{tick_limit}

-- what is kept of a voltage, or of its opposite
abbrev pub kept_turned : Bool → ℕ → ℕ
kept_turned false x = x
kept_turned true x = span - x

-- asked by `turn_ticks`: no number of them is above the limit of a row's ticks in size
pub record Turnable (ticks : List ℤ) : Type 0 where
  pub small : (k : ℕ) → nat_abs (get_or ticks k (pos 0)) ≤ tick_limit
