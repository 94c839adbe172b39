-- The text that is written for a number: its digits, an `e` and its power, without zeros in front of either.
use Rattle.std.specs.Prelude.{Bool, true, false, List, [], ◌∷◌, ◌++◌, Option, Some, None, ℕ, ◌-◌, ltb}
use Rattle.spelling.specs.Digits.{plain_digits, sign_of}
use Rattle.decimal.specs.declared.Decimal.{Decimal}
use Rattle.decimal.specs.Decimal.{no_power}
use Rattle.decimal_read.specs.Text.{minus_byte, mark_byte, most_digits}

-- the power q - 22, which has two digits at most
abbrev pub power_if : Bool → ℕ → List ℕ
power_if true q = minus_byte ∷ plain_digits 2 (no_power - q)
power_if false q = plain_digits 2 (q - no_power)

unfoldable pub power_text : ℕ → List ℕ
power_text q = power_if (ltb q no_power) q

unfoldable pub number_text : Bool → ℕ → ℕ → List ℕ
number_text minus d q = sign_of minus ++ (plain_digits most_digits d ++ (mark_byte ∷ power_text q))

-- of a form; nothing is written where there is none
unfoldable pub form_text : Option Decimal → List ℕ
form_text (Some x) = number_text x.minus x.digits x.power
form_text None = []
