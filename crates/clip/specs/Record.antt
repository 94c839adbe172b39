-- A record's bytes: words, each the bits of an f64. What is said of the words is said of the first n, for any n.
use Rattle.std.specs.Prelude.{Bool, true, cond, ◌&&◌, ◌||◌, List, ℕ, zero, suc, ◌*◌, eqb, length, Float}
use Rattle.std.specs.Float.{binary64}
use Rattle.std.specs.Float.Ieee.{of_bits}
use Rattle.std.specs.Float.Ieee.Scale.{finite}
use Rattle.bytes_le.specs.Le.{le_at}
use Rattle.clip.specs.Limits.{wide, narrow}

-- whether the bytes are those of n words
abbrev pub has_words : ℕ → List ℕ → Bool
has_words n s = eqb (length s) (8 * n)

-- those of a record of version 2, and of version 1
abbrev pub is_wide : List ℕ → Bool
is_wide s = has_words wide s

abbrev pub is_narrow : List ℕ → Bool
is_narrow s = has_words narrow s

-- whether they are those of a record
abbrev pub right_length : List ℕ → Bool
right_length s = is_wide s || is_narrow s

-- how many words it has
abbrev pub width_of : List ℕ → ℕ
width_of s = cond (is_wide s) wide narrow

-- word i, and the number that it is the bits of
abbrev pub word_at : List ℕ → ℕ → ℕ
word_at s i = le_at 8 s (8 * i)

abbrev pub number_at : List ℕ → ℕ → Float
number_at s i = of_bits binary64 (word_at s i)

-- whether each of the first n numbers is finite
unfoldable pub finite_up : List ℕ → ℕ → Bool
finite_up s zero = true
finite_up s (suc n) = finite_up s n && finite (number_at s n)
