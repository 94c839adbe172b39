-- V_Lr, which stands beside the eighth branch: its limit, its whole microvolts, and how a card keeps them.
use Rattle.std.specs.Prelude.{Bool, ◌&&◌, ℕ, suc, ◌+◌, ◌-◌, ◌*◌, ℤ, pos, negsuc, Float}
use Rattle.std.specs.Float.{binary64}
use Rattle.std.specs.Float.Ieee.{of_bits, neg, mul, le, to_signed}
use Rattle.working.specs.Work.{million}

-- 5
abbrev pub five : Float
five = of_bits binary64 0x4014_0000_0000_0000

-- at most 5 in size
abbrev pub knee_good : Float → Bool
knee_good v = le v five && le (neg v) five

-- the whole microvolts, cut toward zero
abbrev pub microvolts_of : Float → ℤ
microvolts_of v = to_signed 63 (mul binary64 v million)

-- 5 V in microvolts, the largest voltage from one node to another: kept raised by them, no V_Lr is negative
abbrev pub knee_raise : ℕ
knee_raise = 5000000

abbrev pub knee_kept : ℤ → ℕ
knee_kept (pos n) = knee_raise + n
knee_kept (negsuc n) = knee_raise - suc n

abbrev pub knee_of : Float → ℕ
knee_of v = knee_kept (microvolts_of v)

-- the most that is kept
abbrev pub knee_most : ℕ
knee_most = 2 * knee_raise
