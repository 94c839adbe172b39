-- A signed number by its size and whether it is below zero, and ticks in whole picoamperes.
use Rattle.std.specs.Prelude.{Bool, true, false, ℕ, ◌*◌, ◌/◌, ◌^◌, ℤ, pos, negsuc, nat_abs}
use Rattle.current.specs.declared.Opened.{Opened}

-- how many ticks an ampere has, and with how many decimals it is printed
abbrev pub ampere_ticks : ℕ
ampere_ticks = 2 ^ 50

abbrev pub decimals : ℕ
decimals = 12

abbrev pub below_zero : ℤ → Bool
below_zero (pos n) = false
below_zero (negsuc n) = true

abbrev pub opened_of : ℤ → Opened
opened_of z = record { below = below_zero z; size = nat_abs z }

-- n ticks in whole picoamperes, the last decimal, cut
abbrev pub pico_of : ℕ → ℕ
pico_of n = n * 10 ^ decimals / ampere_ticks
