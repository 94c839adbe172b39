-- Numbers in digits: hexadecimal of a fixed width, plain decimal, signed, and amperes.
use Rattle.std.specs.Prelude.{Bool, true, false, ◌&&◌, List, [], ◌∷◌, ◌++◌, ℕ, zero, suc, ◌/◌, ◌%◌, ◌^◌, ltb, ℤ, nat_abs}
use Rattle.current.specs.Current.{decimals, below_zero, pico_of}
pub use Rattle.spelling.specs.Digits.{glyph_of, sign_of}
unfoldable pub use Rattle.spelling.specs.Digits.{plain_digits}

-- how many hexadecimal digits a clip mask has, by whether its record is of version 2, and a word of 64 bits
abbrev pub mask_digits : Bool → ℕ
mask_digits true = 6
mask_digits false = 4

abbrev pub word_digits : ℕ
word_digits = 16

-- how many decimal digits a number of 64 bits has at most
abbrev pub most_digits : ℕ
most_digits = 20

-- the k lowest digits of n in a base, the highest first
unfoldable pub digits_of : ℕ → ℕ → ℕ → List ℕ
digits_of b zero n = []
digits_of b (suc k) n = digits_of b k (n / b) ++ glyph_of (n % b) ∷ []

abbrev pub hex_digits : ℕ → ℕ → List ℕ
hex_digits k n = digits_of 16 k n

-- of a number of 64 bits
abbrev pub decimal_of : ℕ → List ℕ
decimal_of n = plain_digits most_digits n

abbrev pub signed_digits : ℤ → List ℕ
signed_digits z = sign_of (below_zero z) ++ decimal_of (nat_abs z)

-- ticks as amperes with their decimals, cut toward zero: a minus sign only where some digit is not zero
abbrev pub ampere_digits : ℤ → List ℕ
ampere_digits z =
    sign_of (below_zero z && ltb 0 (pico_of (nat_abs z)))
    ++ (decimal_of (pico_of (nat_abs z) / 10 ^ decimals) ++ 46 ∷ digits_of 10 decimals (pico_of (nat_abs z)))
