-- The clip rules of a record's numbers, and what a rule does to a number. A limit is the nearest f64, by its bits.
use Rattle.std.specs.Prelude.{cond, List, [], ◌∷◌, ℕ, length, get_or, Float}
use Rattle.std.specs.Float.{binary64}
use Rattle.std.specs.Float.Ieee.{of_bits, lt, eq}
use Rattle.clip.specs.declared.limits.Rule.{Rule}
use Rattle.clip.specs.declared.limits.Rule.TheVariants.{Free, AtLeast, Between}

abbrev pub zero : Float
zero = of_bits binary64 0

abbrev pub one : Float
one = of_bits binary64 0x3ff0_0000_0000_0000

-- 1e-12
abbrev pub pico : Float
pico = of_bits binary64 0x3d71_9799_812d_ea11

-- 1e-10
abbrev pub tenth_nano : Float
tenth_nano = of_bits binary64 0x3ddb_7cdf_d9d7_bdbb

-- 1e-4
abbrev pub tenth_milli : Float
tenth_milli = of_bits binary64 0x3f1a_36e2_eb1c_432d

-- 0.001
abbrev pub milli : Float
milli = of_bits binary64 0x3f50_624d_d2f1_a9fc

-- 0.1
abbrev pub tenth : Float
tenth = of_bits binary64 0x3fb9_9999_9999_999a

-- the table of ranges, in the order of the parameters' numbers; beta_ri, by document 003's own table, at least 1e-10
abbrev pub rules : List Rule
rules =
    AtLeast zero
    ∷ AtLeast zero
    ∷ AtLeast pico
    ∷ AtLeast tenth_milli
    ∷ Between zero one
    ∷ AtLeast zero
    ∷ AtLeast tenth
    ∷ AtLeast tenth_nano
    ∷ AtLeast zero
    ∷ Free
    ∷ AtLeast pico
    ∷ AtLeast zero
    ∷ AtLeast zero
    ∷ Between zero one
    ∷ Free
    ∷ Free
    ∷ AtLeast zero
    ∷ Free
    ∷ AtLeast milli
    ∷ AtLeast milli
    ∷ AtLeast milli
    ∷ Free
    ∷ Free
    ∷ Free
    ∷ []

-- the words of a record of version 2 are as many; one of version 1 has the first sixteen
abbrev pub wide : ℕ
wide = length rules

abbrev pub narrow : ℕ
narrow = 16

abbrev pub rule_of : ℕ → Rule
rule_of i = get_or rules i Free

-- a zero of either sign is +0
abbrev pub plain_of : Float → Float
plain_of x = cond (eq x zero) zero x

abbrev pub clip_to : Rule → Float → Float
clip_to Free x = plain_of x
clip_to (AtLeast low) x = plain_of (cond (lt x low) low x)
clip_to (Between low high) x = plain_of (cond (lt x low) low (cond (lt high x) high x))
