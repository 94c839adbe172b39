-- Little-endian numbers: the number that bytes spell, and the bytes of a number.
use Rattle.std.specs.Prelude.{◌≡◌, refl, List, [], ◌∷◌, ℕ, zero, suc, ◌+◌, ◌*◌, ◌/◌, ◌%◌, ◌^◌, ◌<◌, ◌≤◌, length, take, drop, get_or}
use Rattle.std.proofs.Common.{sym, ◌∙◌, ap, ap₂, pow-suc, div-lt_iff_lt-mul, arith, lit<}
use Rattle.std.proofs.Math.Nat.{pow-zero}
use Rattle.std.proofs.Math.Arith.{lt-one}

-- how many values a byte has
abbrev pub byte_values : ℕ
byte_values = 256

-- the number of a list of bytes, the lowest first
abbrev pub le : List ℕ → ℕ
le [] = 0
le (b ∷ bs) = b + byte_values * le bs

-- the number in the w bytes at a place; bytes past the end count as 0
abbrev pub le_at : ℕ → List ℕ → ℕ → ℕ
le_at w s at = le (take w (drop at s))

-- the w lowest bytes of a number, the lowest first
abbrev pub bytes_of : ℕ → ℕ → List ℕ
bytes_of zero x = []
bytes_of (suc w) x = x % byte_values ∷ bytes_of w (x / byte_values)

-- the bytes of a word
abbrev pub word_bytes : ℕ
word_bytes = 8

-- x is the word in the first bytes of s, and spells them again where all of a word's are there
pub record Word (s : List ℕ) (x : ℕ) : Type 0 where
  pub value : x ≡ le (take word_bytes s)
  pub bytes : word_bytes ≤ length s → bytes_of word_bytes x ≡ take word_bytes s

-- the number of a number's bytes is the number
pub le_bytes : (w x : ℕ) → x < byte_values ^ w → le (bytes_of w x) ≡ x
le_bytes zero x h = sym (lt-one (rw pow-zero at h))
le_bytes (suc w) x h =
    let q : x / byte_values < byte_values ^ w = (div-lt_iff_lt-mul (lit< tt)).1 (rw pow-suc at h) in
    let e = le_bytes w (x / byte_values) q in omega arith

pub length_bytes : (w x : ℕ) → length (bytes_of w x) ≡ w
length_bytes zero x = refl
length_bytes (suc w) x = ap suc (length_bytes w (x / byte_values))

-- no element of the list reaches m
abbrev pub Below : ℕ → List ℕ → Type 0
Below m l = (i : ℕ) → get_or l i 0 < m

-- the bytes of the number that bytes spell are those bytes
pub bytes_le : (l : List ℕ) → Below byte_values l → bytes_of (length l) (le l) ≡ l
bytes_le [] b = refl
bytes_le (x ∷ l) b =
    let h : x < byte_values = b 0 in
    let m : (x + byte_values * le l) % byte_values ≡ x = omega arith in
    let d : (x + byte_values * le l) / byte_values ≡ le l = omega arith in
    ap₂ (λ (y z : ℕ). y ∷ bytes_of (length l) z) m d ∙ ap (λ (r : List ℕ). x ∷ r) (bytes_le l (λ i. b (suc i)))
