-- The cards of the worked cases as words, and the bytes of their records.
use Rattle.std.specs.Prelude.{List, [], ◌∷◌, ◌++◌, ℕ}
use Rattle.bytes_le.specs.Le.{bytes_of}

-- the bits of some numbers as f64
abbrev pub one : ℕ
one = 0x3ff0000000000000

abbrev pub two : ℕ
two = 0x4000000000000000

abbrev pub four : ℕ
four = 0x4010000000000000

abbrev pub minus_zero : ℕ
minus_zero = 0x8000000000000000

abbrev pub two_to_minus_40 : ℕ
two_to_minus_40 = 0x3d70000000000000

abbrev pub two_to_minus_38 : ℕ
two_to_minus_38 = 0x3d90000000000000

-- a card with this I_s, I_k, XI_B1 and beta_ri. The others, in the order of a record: MULT 1, beta_f 1, I_Bf 0,
-- m_Lf 1, I_Ss 0, I_CSs 0, I_ks 1, both resistances 0, EXSUB 0, an octave of 16,000,000 nV, LEVEL 504.
abbrev pub words_of : ℕ → ℕ → ℕ → ℕ → List ℕ
words_of is ik xi bri = one ∷ is ∷ ik ∷ one ∷ xi ∷ 0 ∷ one ∷ bri ∷ 0 ∷ 0 ∷ one ∷ 0 ∷ 0 ∷ 0 ∷ 0x416e848000000000
    ∷ 0x407f800000000000 ∷ []

-- eight bytes to a word
unfoldable pub record_of : List ℕ → List ℕ
record_of [] = []
record_of (w ∷ ws) = bytes_of 8 w ++ record_of ws
