-- A number of a model line, once its point is moved out: a sign, digits d and a power of ten from -22 to 22. The power
-- is held as q, which is 22 more, so that the size is always the fraction d * 10^q over 10^22.
use Rattle.std.specs.Prelude.{Bool, false, ◌&&◌, cond, List, [], ◌∷◌, get_or, ℕ, ◌-◌, ◌*◌, ◌^◌, ltb, Float}
use Rattle.std.specs.Float.{binary64, nan}
use Rattle.std.specs.Float.Ieee.{round, to_bits, of_bits, div, mul}
use Rattle.decimal.specs.declared.Decimal.{Decimal}

-- digits are below it: fifteen of them at most
abbrev pub digits_end : ℕ
digits_end = 1000000000000000

-- the power 0 as it is held, and what a held power is below
abbrev pub no_power : ℕ
no_power = 22

abbrev pub powers_end : ℕ
powers_end = 45

-- a number of its three parts
abbrev pub decimal : Bool → ℕ → ℕ → Decimal
decimal minus d q = record { minus = minus; digits = d; power = q }

-- what the sign adds to a word
abbrev pub sign_weight : ℕ
sign_weight = 9223372036854775808

-- the size as an f64: the fraction, rounded once, to the nearest and from the middle to the even one
unfoldable pub rounded_of : ℕ → ℕ → Float
rounded_of d q = round binary64 false (d * 10 ^ q) (10 ^ 22)

-- the word of the size
unfoldable pub size_bits : ℕ → ℕ → ℕ
size_bits d q = to_bits binary64 (rounded_of d q)

-- the number with its sign, which a zero has not, and its word
unfoldable pub value_of : Bool → ℕ → ℕ → Float
value_of minus d q = round binary64 (minus && ltb 0 d) (d * 10 ^ q) (10 ^ 22)

unfoldable pub word_of : Bool → ℕ → ℕ → ℕ
word_of minus d q = to_bits binary64 (value_of minus d q)

-- 10^0 to 10^22, each of them an f64 without rounding (`ten_value` in proofs/Exact)
unfoldable pub powers_of_ten : List Float
powers_of_ten =
    of_bits binary64 0x3ff0_0000_0000_0000
    ∷ of_bits binary64 0x4024_0000_0000_0000
    ∷ of_bits binary64 0x4059_0000_0000_0000
    ∷ of_bits binary64 0x408f_4000_0000_0000
    ∷ of_bits binary64 0x40c3_8800_0000_0000
    ∷ of_bits binary64 0x40f8_6a00_0000_0000
    ∷ of_bits binary64 0x412e_8480_0000_0000
    ∷ of_bits binary64 0x4163_12d0_0000_0000
    ∷ of_bits binary64 0x4197_d784_0000_0000
    ∷ of_bits binary64 0x41cd_cd65_0000_0000
    ∷ of_bits binary64 0x4202_a05f_2000_0000
    ∷ of_bits binary64 0x4237_4876_e800_0000
    ∷ of_bits binary64 0x426d_1a94_a200_0000
    ∷ of_bits binary64 0x42a2_309c_e540_0000
    ∷ of_bits binary64 0x42d6_bcc4_1e90_0000
    ∷ of_bits binary64 0x430c_6bf5_2634_0000
    ∷ of_bits binary64 0x4341_c379_37e0_8000
    ∷ of_bits binary64 0x4376_3457_85d8_a000
    ∷ of_bits binary64 0x43ab_c16d_674e_c800
    ∷ of_bits binary64 0x43e1_58e4_6091_3d00
    ∷ of_bits binary64 0x4415_af1d_78b5_8c40
    ∷ of_bits binary64 0x444b_1ae4_d6e2_ef50
    ∷ of_bits binary64 0x4480_f0cf_064d_d592
    ∷ []

-- x with the power q - 22, by one division or one multiplication of f64s
unfoldable pub times_power : Float → ℕ → Float
times_power x q =
    cond (ltb q no_power) (div binary64 x (get_or powers_of_ten (no_power - q) nan))
    (mul binary64 x (get_or powers_of_ten (q - no_power) nan))
