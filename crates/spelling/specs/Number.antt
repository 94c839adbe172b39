-- A number in a word: an optional minus sign and one or more decimal digits.
use Rattle.std.specs.Prelude.{Bool, true, false, cond, ◌&&◌, List, [], ◌∷◌, Option, Some, None, ℕ, ◌+◌, ◌*◌, ◌-◌, ◌^◌, min, eqb}
use Rattle.std.specs.Prelude.{leb, ltb, ℤ, pos, neg_ℤ, length, drop, get_or}

abbrev pub is_digit : ℕ → Bool
is_digit b = leb 48 b && leb b 57

abbrev pub digit_of : ℕ → ℕ
digit_of b = cond (is_digit b) (b - 48) 0

unfoldable pub all_digits : List ℕ → Bool
all_digits [] = true
all_digits (b ∷ l) = is_digit b && all_digits l

-- the number that digits spell after x
unfoldable pub decimal_from : ℕ → List ℕ → ℕ
decimal_from x [] = x
decimal_from x (b ∷ l) = decimal_from (10 * x + digit_of b) l

abbrev pub decimal_value : List ℕ → ℕ
decimal_value l = decimal_from 0 l

-- the first size that no signed number of 64 bits above zero has
abbrev pub first_beyond : ℕ
first_beyond = 2 ^ 63

-- and the first that none has
abbrev pub first_past : ℕ
first_past = first_beyond + 1

-- whether n, or -n, is a signed number of 64 bits
abbrev pub within_ends : Bool → ℕ → Bool
within_ends false n = ltb n first_beyond
within_ends true n = leb n first_beyond

-- the signed number of 64 bits nearest to n, or to -n: itself, unless it is beyond them. The two ends, -2^63 and 2^63
-- - 1, are no card, transistor,
-- node or voltage, so that a number beyond them is refused as they are.
abbrev pub nearest : Bool → ℕ → ℤ
nearest false n = pos (min n (first_beyond - 1))
nearest true n = neg_ℤ (pos (min n first_beyond))

abbrev pub parsed_if : Bool → ℤ → Option ℤ
parsed_if true z = Some z
parsed_if false z = None

-- digits, at least one, with or without a minus sign before them
unfoldable pub parsed_with : Bool → List ℕ → Option ℤ
parsed_with below l = parsed_if (ltb 0 (length l) && all_digits l) (nearest below (decimal_value l))

abbrev pub parsed_after : Bool → List ℕ → Option ℤ
parsed_after true w = parsed_with true (drop 1 w)
parsed_after false w = parsed_with false w

unfoldable pub parsed_of : List ℕ → Option ℤ
parsed_of w = parsed_after (eqb (get_or w 0 0) 45) w

-- the number that a word of digits spells is one of 64 bits
abbrev pub fits_after : Bool → List ℕ → Bool
fits_after true w = within_ends true (decimal_value (drop 1 w))
fits_after false w = within_ends false (decimal_value w)

unfoldable pub fits_of : List ℕ → Bool
fits_of w = fits_after (eqb (get_or w 0 0) 45) w
