-- Bytes in a word: two hex digits for each, or `-` for none.
use Rattle.std.specs.Prelude.{◌≡◌, Bool, true, false, cond, ◌&&◌, ◌||◌, List, [], ◌∷◌, Option, Some, None, ℕ, ◌+◌, ◌*◌, ◌-◌, ◌/◌, eqb, leb, length, get_or}
use Rattle.bytes_le.specs.Buffer.{over}

abbrev pub between : ℕ → ℕ → ℕ → Bool
between low b high = leb low b && leb b high

-- 0 to 9, A to F, a to f
abbrev pub is_hex : ℕ → Bool
is_hex b = between 48 b 57 || (between 65 b 70 || between 97 b 102)

abbrev pub nibble_of : ℕ → ℕ
nibble_of b = cond (between 48 b 57) (b - 48) (cond (between 65 b 70) (b - 55) (cond (between 97 b 102) (b - 87) 0))

unfoldable pub all_pairs : List ℕ → Bool
all_pairs [] = true
all_pairs (a ∷ []) = false
all_pairs (a ∷ b ∷ l) = is_hex a && (is_hex b && all_pairs l)

unfoldable pub pairs_of : List ℕ → List ℕ
pairs_of [] = []
pairs_of (a ∷ []) = []
pairs_of (a ∷ b ∷ l) = (16 * nibble_of a + nibble_of b) ∷ pairs_of l

abbrev pub is_dash : List ℕ → Bool
is_dash w = eqb (length w) 1 && eqb (get_or w 0 0) 45

-- a word that spells bytes: a dash, or pairs of digits, for no more bytes than there is room for
unfoldable pub spells : List ℕ → ℕ → Bool
spells w space = is_dash w || (leb (length w / 2) space && all_pairs w)

abbrev pub hex_if : Bool → ℕ → Option ℕ
hex_if true n = Some n
hex_if false n = None

abbrev pub over_if : Bool → List ℕ → List ℕ → List ℕ
over_if true new old = over new old
over_if false new old = old

-- reading the word w into old: the answer r, and what stands in the buffer after it
pub record ReadsHex (w old : List ℕ) (r : Option ℕ) (new : List ℕ) : Type 0 where
  pub answer : r ≡ hex_if (spells w (length old)) (length (pairs_of w))
  pub bytes : new ≡ over_if (spells w (length old)) (pairs_of w) old
