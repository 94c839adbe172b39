-- The sum of two exponentials, rounded downward in parts of 2^-20; a difference of T's over it; and when that is too
-- much.
use Rattle.std.specs.Prelude.{Bool, ◌||◌, ℕ, ◌+◌, ◌*◌, ◌-◌, ◌/◌, ◌^◌, eqb, ltb, ℤ, pos, nat_abs, ◌+ℤ◌}
use Rattle.scaling.specs.OfQuotients.Quotient.{quotient_of}
use Rattle.scaling.specs.OfOctave.Table.{places}
use Rattle.scaling.specs.OfOctave.Exponential.{bias}
use Rattle.scaling.specs.Scaled.{Scaled, part_places, tick_limit}

-- no exponential of the desk has a power below -lowest: both are whole numbers of 2^-lowest
abbrev pub lowest : ℕ
lowest = bias + places

abbrev pub in_lowest : Scaled → ℕ
in_lowest x = x.digits * 2 ^ nat_abs (x.power +ℤ pos lowest)

-- floor(2^20 * (x + y)), of the exact sum
abbrev pub sum_parts : Scaled → Scaled → ℕ
sum_parts x y = (in_lowest x + in_lowest y) / 2 ^ (lowest - part_places)

-- the most that it may be
abbrev pub sum_limit : ℕ
sum_limit = 2 ^ 43

-- N * 2^20 / Y toward zero
abbrev pub over_sum : ℤ → ℕ → ℤ
over_sum n y = quotient_of n part_places y

-- it overloads: nothing to divide by, or too much, or a result too large
abbrev pub sum_over : ℤ → ℕ → Bool
sum_over n y = eqb y 0 || (ltb sum_limit y || ltb tick_limit (nat_abs (over_sum n y)))
