-- The text of a number: a minus or none, digits with at most one point among them, fifteen at most, then nothing or an
-- `e` and a power, itself a minus or none and one or two digits. Read from its first byte to its last.
use Rattle.std.specs.Prelude.{Bool, true, false, ◌&&◌, not, cond, List, [], ◌∷◌, Option, Some, None, ℕ, ◌+◌, ◌-◌, ◌*◌}
use Rattle.std.specs.Prelude.{◌<◌, leb, ltb, eqb}
use Rattle.spelling.specs.Number.{is_digit}
use Rattle.decimal.specs.declared.Decimal.{Decimal}
use Rattle.decimal.specs.Decimal.{decimal, digits_end, powers_end, word_of}

-- the bytes that have a meaning beside the digits
abbrev pub minus_byte : ℕ
minus_byte = 45

abbrev pub point_byte : ℕ
point_byte = 46

abbrev pub mark_byte : ℕ
mark_byte = 101

-- the most digits of a number, those in front and after the point together
abbrev pub most_digits : ℕ
most_digits = 15

-- the digit of a byte; 10 where it is none
unfoldable pub figure_of : ℕ → ℕ
figure_of b = cond (is_digit b) (b - 48) 10

-- ---- the power, held with 99 added: from 0 to 198, and 200 where there is none

-- one digit or two; 100 where it is neither
unfoldable pub pair_of : List ℕ → ℕ
pair_of [] = 100
pair_of (a ∷ []) = cond (ltb (figure_of a) 10) (figure_of a) 100
pair_of (a ∷ b ∷ []) = cond (ltb (figure_of a) 10 && ltb (figure_of b) 10) (figure_of a * 10 + figure_of b) 100
pair_of (a ∷ b ∷ c ∷ s) = 100

abbrev pub signed_if : Bool → ℕ → List ℕ → ℕ
signed_if true b s = cond (ltb (pair_of s) 100) (99 - pair_of s) 200
signed_if false b s = cond (ltb (pair_of (b ∷ s)) 100) (99 + pair_of (b ∷ s)) 200

unfoldable pub signed_power : List ℕ → ℕ
signed_power [] = 200
signed_power (b ∷ s) = signed_if (eqb b minus_byte) b s

-- what stands after the digits: nothing is the power 0
abbrev pub marked_if : Bool → List ℕ → ℕ
marked_if true s = signed_power s
marked_if false s = 200

unfoldable pub power_after : List ℕ → ℕ
power_after [] = 99
power_after (b ∷ s) = marked_if (eqb b mark_byte) s

-- ---- the digits

-- d with f digits after the point and the power r - 99: moving the point out takes f from the power, which is then from
-- -22 to 22; 200, which is no power, is above that for every f
abbrev pub ranged_if : Bool → Bool → ℕ → ℕ → Option Decimal
ranged_if minus true d q = Some (decimal minus d q)
ranged_if minus false d q = None

abbrev pub placed_if : Bool → Bool → ℕ → ℕ → Option Decimal
placed_if minus true d q = ranged_if minus (ltb q powers_end) d q
placed_if minus false d q = None

unfoldable pub placed_of : Bool → ℕ → ℕ → ℕ → Option Decimal
placed_of minus d f r = placed_if minus (leb (77 + f) r) d (r - (77 + f))

-- there is a digit at least, and s follows them
abbrev pub ended_if : Bool → Bool → ℕ → ℕ → List ℕ → Option Decimal
ended_if minus true d f s = placed_of minus d f (power_after s)
ended_if minus false d f s = None

unfoldable pub ended_of : Bool → ℕ → ℕ → ℕ → List ℕ → Option Decimal
ended_of minus d n f s = ended_if minus (ltb 0 n) d f s

-- a digit more, after the point or not
abbrev pub counted : Bool → ℕ → ℕ
counted true f = f + 1
counted false f = f

abbrev pub scanned_if : Bool → Bool → Option Decimal → Option Decimal → Option Decimal → Option Decimal
scanned_if true p digit dot end = digit
scanned_if false true digit dot end = dot
scanned_if false false digit dot end = end

-- n digits that make d are read, f of them after the point if there was one; s is still to be read
unfoldable pub scanned : Bool → ℕ → ℕ → ℕ → Bool → List ℕ → Option Decimal
scanned minus d n f point [] = ended_of minus d n f []
scanned minus d n f point (b ∷ s) =
    scanned_if (ltb (figure_of b) 10 && ltb n most_digits) (eqb b point_byte && not point)
    (scanned minus (d * 10 + figure_of b) (n + 1) (counted point f) point s)
    (scanned minus d n f true s)
    (ended_of minus d n f (b ∷ s))

abbrev pub read_if : Bool → ℕ → List ℕ → Option Decimal
read_if true b s = scanned true 0 0 0 false s
read_if false b s = scanned false 0 0 0 false (b ∷ s)

unfoldable pub read_of : List ℕ → Option Decimal
read_of [] = None
read_of (b ∷ s) = read_if (eqb b minus_byte) b s

-- digits and a power in their ranges
abbrev pub InRange : Option Decimal → Type 0
InRange (Some x) = (x.digits < digits_end) × (x.power < powers_end)
InRange None = Unit

-- ---- the word that a text stands for
abbrev pub read_as : Option Decimal → Option ℕ
read_as (Some x) = Some (word_of x.minus x.digits x.power)
read_as None = None

unfoldable pub word_read : List ℕ → Option ℕ
word_read s = read_as (read_of s)
