-- The digits that spell a number.
use Rattle.std.specs.Prelude.{Bool, true, false, cond, List, [], ◌∷◌, ◌++◌, ℕ, zero, suc, ◌+◌, ◌/◌, ◌%◌, ltb}

-- the byte of a digit below sixteen: 0 to 9, then a to f
abbrev pub glyph_of : ℕ → ℕ
glyph_of d = cond (ltb d 10) (48 + d) (87 + d)

-- the decimal digits of a number that has at most k of them, with no zeros in front
unfoldable pub plain_digits : ℕ → ℕ → List ℕ
plain_digits zero n = []
plain_digits (suc k) n = cond (ltb n 10) (glyph_of n ∷ []) (plain_digits k (n / 10) ++ glyph_of (n % 10) ∷ [])

-- a minus sign, where there is to be one
abbrev pub sign_of : Bool → List ℕ
sign_of true = 45 ∷ []
sign_of false = []
