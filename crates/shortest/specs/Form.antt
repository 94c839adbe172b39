-- The shortest form of a word: of all digits that read back to it, with whatever power, the smallest. Fewer digits make
-- a smaller number, so that these are the fewest too (`Shortest` in laws/Least).
use Rattle.std.specs.Prelude.{Bool, true, false, Option, Some, None, ℕ, eqb, leb, ltb}
use Rattle.decimal.specs.declared.Decimal.{Decimal}
use Rattle.decimal.specs.Decimal.{decimal, digits_end, no_power, powers_end, sign_weight, word_of}
use Rattle.shortest.specs.First.{first_below}

-- a word's sign
abbrev pub minus_of : ℕ → Bool
minus_of w = leb sign_weight w

-- the first power with which the digits d read back to w; the end of the powers where none does
unfoldable pub power_for : ℕ → ℕ → ℕ
power_for w d = first_below (λ (q : ℕ). eqb (word_of (minus_of w) d q) w) powers_end

-- the smallest digits for which there is one; the end of the digits where there are none
unfoldable pub digits_for : ℕ → ℕ
digits_for w = first_below (λ (d : ℕ). ltb (power_for w d) powers_end) digits_end

abbrev pub found_if : Bool → ℕ → Option Decimal
found_if true w = Some (decimal (minus_of w) (digits_for w) (power_for w (digits_for w)))
found_if false w = None

-- zero is 0e0
abbrev pub form_if : Bool → ℕ → Option Decimal
form_if true w = Some (decimal false 0 no_power)
form_if false w = found_if (ltb (digits_for w) digits_end) w

unfoldable pub form_of : ℕ → Option Decimal
form_of w = form_if (eqb w 0) w
