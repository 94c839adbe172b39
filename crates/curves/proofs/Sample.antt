-- A card whose every branch has a current, near the knee at 0 volts, and voltages for it.
use mathlib.Core.List.{List, [], ◌∷◌, map}
use Prim.Native.Nat.{ℕ}
use lib.IntN.{ℤ, pos, neg_ℤ}
use lib.Ieee.{binary64, of_bits}
use Rattle.card.specs.declared.WorkedCard.{WorkedCard}
use Rattle.card.specs.Judge.{card_of}

-- some numbers as f64
abbrev zero : ℕ
zero = 0

abbrev half : ℕ
half = 0x3fe0000000000000

abbrev one : ℕ
one = 0x3ff0000000000000

abbrev two : ℕ
two = 0x4000000000000000

abbrev four : ℕ
four = 0x4010000000000000

abbrev two_to_minus_40 : ℕ
two_to_minus_40 = 0x3d70000000000000

abbrev two_to_minus_38 : ℕ
two_to_minus_38 = 0x3d90000000000000

-- the words of a record of version 2: MULT 1, I_s and I_k 2^-38, beta_f 1, XI_B1 a half, I_Bf 2^-40, m_Lf 2, beta_ri 4,
-- I_Ss 2^-38, I_CSs 2^-40, I_ks 2^-38, R_Cblx, R_Cbli and EXSUB 0, an octave of 16,000,000 nV, LEVEL 504; I_Br 2^-38,
-- V_Lr 0, three resistances of 1, polarity +1
abbrev words : List ℕ
words =
    one
    ∷ two_to_minus_38
    ∷ two_to_minus_38
    ∷ one
    ∷ half
    ∷ two_to_minus_40
    ∷ two
    ∷ four
    ∷ two_to_minus_38
    ∷ two_to_minus_40
    ∷ two_to_minus_38
    ∷ zero
    ∷ zero
    ∷ zero
    ∷ 0x416e848000000000
    ∷ 0x407f800000000000
    ∷ two_to_minus_38
    ∷ zero
    ∷ one
    ∷ one
    ∷ one
    ∷ one
    ∷ zero
    ∷ zero
    ∷ []

unfoldable pub the_card : WorkedCard
unfolding of_bits
the_card = card_of (map (of_bits binary64) words)

-- B1, B2 and S at v, every other role at 0
abbrev pub lifted : ℤ → List ℤ
lifted v = pos 0 ∷ v ∷ v ∷ pos 0 ∷ pos 0 ∷ pos 0 ∷ v ∷ []

-- from B2 to E1 the one voltage, and to C2 the other
abbrev pub apart : ℤ → ℤ → List ℤ
apart e c = neg_ℤ e ∷ pos 0 ∷ pos 0 ∷ pos 0 ∷ neg_ℤ c ∷ pos 0 ∷ pos 0 ∷ []
