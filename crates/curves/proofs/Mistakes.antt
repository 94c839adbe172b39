-- Wrong definitions, each with a computed place where one of the theorems would be false of it.
use mathlib.Core.Path.{◌≡◌, refl}
use mathlib.Core.Bool.{cond}
use mathlib.Core.List.{[], ◌∷◌}
use Prim.Native.Nat.{ℕ, suc, ◌+◌, ◌-◌, ◌*◌, ◌/◌, ◌%◌, ◌^◌}
use lib.Dec.{eqb}
use lib.IntN.{ℤ, pos, negsuc, neg_ℤ, sub_ℕ, ◌-ℤ◌, ◌*ℤ◌}
use lib.Ieee.{of_bits, lt, eq, mul, div, sub, to_unsigned, to_signed, size}
use Rattle.whole.specs.Floor.{floor_div}
use Rattle.roots.specs.Root.{root_of, root_bits}
use Rattle.octave.specs.Table.{steps, parts, places, entries, entry_of}
use Rattle.octave.specs.Position.{position_of, part_of}
use Rattle.card.specs.declared.WorkedCard.{WorkedCard}
use Rattle.scaling.specs.Scaled.{Scaled, exp_of, times, whole_ticks}
use Rattle.terms.specs.Rows.{Role, E1, B2, C2, Value, bulk, r_ex, Span, root, row1}
use Rattle.terms.specs.Values.{value_of, octave_for, bias_of, tick_of}
use Rattle.rows.specs.Ticks.{root_for, summand_of, quotient_shift, row_ticks}
use Rattle.curves.specs.Diode.{diode}
use Rattle.curves.proofs.Sample.{the_card, apart}

-- ---- a row of the shape, over any entries and any way to count whole octaves

abbrev mantissa_by : (ℕ → ℕ) → ℕ → ℕ
mantissa_by entry f =
    entry (f / steps) + (entry (suc (f / steps)) - entry (f / steps)) * (f % steps) / steps

abbrev exp_by : (ℕ → ℕ) → (ℤ → ℕ → ℤ) → ℤ → ℕ → Scaled
exp_by entry octaves v w =
    record { digits = mantissa_by entry (part_of v w); power = octaves (position_of v w) parts -ℤ pos places }

abbrev ticks_by : (ℕ → ℕ) → (ℤ → ℕ → ℤ) → Scaled → ℕ → ℤ → ℤ
ticks_by entry octaves x w v = sub_ℕ (whole_ticks (times x (exp_by entry octaves v w))) (whole_ticks x)

-- with the rules' own it is the row
pub as_it_is : (c : WorkedCard) (v : Role → Role → ℤ) (x : Value) (span : Span) (p q : Role) →
    ticks_by entry_of floor_div (value_of c x) (octave_for c span) (v p q) ≡ row_ticks c v (diode x span p q)
unfolding exp_of
as_it_is c v x span p q = refl

-- ---- branch 2 of the card, 2,048 ticks times the exponential less one

-- the table with another number at k
abbrev entry_but : ℕ → ℕ → ℕ → ℕ
entry_but k t j = cond (eqb j k) t (entry_of j)

abbrev with_entry : ℕ → ℕ → ℤ → ℤ
with_entry k t v = ticks_by (entry_but k t) floor_div (value_of the_card bulk) 16000000 v

-- an entry below the one before it: from 62 to 63 microvolts downhill, and negative
pub low_entry : with_entry 1 1070000000 (pos 62) ∷ with_entry 1 1070000000 (pos 63) ∷ [] ≡ pos 0 ∷ negsuc 6 ∷ []
unfolding the_card entries entry_of of_bits lt eq mul div sub to_unsigned to_signed size
low_entry = refl

-- a first entry one too low: something at zero
pub low_first_entry : with_entry 0 (2 ^ places - 1) (pos 0) ≡ negsuc 0
unfolding the_card entries entry_of of_bits lt eq mul div sub to_unsigned to_signed size
low_first_entry = refl

-- a last entry above twice the first: downhill into the next octave
abbrev high : ℕ
high = 2 ^ 31 + 2 ^ 25

pub high_last_entry : with_entry 256 high (pos 15999) ∷ with_entry 256 high (pos 16000) ∷ [] ≡ pos 2110 ∷ pos 2048 ∷ []
unfolding the_card entries entry_of of_bits lt eq mul div sub to_unsigned to_signed size
high_last_entry = refl

-- whole octaves cut toward zero: a negative voltage has a positive current, and from there it is downhill
abbrev toward_zero : ℤ → ℕ → ℤ
toward_zero (pos a) d = pos (a / d)
toward_zero (negsuc a) d = neg_ℤ (pos (suc a / d))

abbrev cut_octaves : ℤ → ℤ
cut_octaves v = ticks_by entry_of toward_zero (value_of the_card bulk) 16000000 v

pub octaves_toward_zero : cut_octaves (negsuc 0) ∷ cut_octaves (pos 0) ∷ [] ≡ pos 2047 ∷ pos 0 ∷ []
unfolding the_card entries entry_of of_bits lt eq mul div sub to_unsigned to_signed size
octaves_toward_zero = refl

-- ---- others

-- T of the value before the exponential: of one and a half ticks times 1,024 less one, 1,534.5 in all, it leaves 1,023
abbrev ticks_first : Scaled → Scaled → ℤ
ticks_first x g = sub_ℕ (whole_ticks x * g.digits * 2 ^ 10 / 2 ^ places) (whole_ticks x)

abbrev one_and_a_half : Scaled
one_and_a_half = record { digits = 3; power = negsuc 50 }

pub value_cut_first : ticks_first one_and_a_half (exp_of (pos 160000) 16000000) ≡ pos 1023
unfolding entries entry_of exp_of
value_cut_first = refl

-- a quotient rounded downward: branch 1 is not its negative when E1 and C2 are exchanged
abbrev floored : (Role → Role → ℤ) → ℤ
floored v =
    floor_div (sub_ℕ (tick_of the_card v row1.plus) (tick_of the_card v row1.minus) *ℤ pos (2 ^ quotient_shift))
    (summand_of the_card v (root r_ex B2 E1) + summand_of the_card v (root r_ex B2 C2))

pub quotient_floored : floored (bias_of (apart (pos 16000) (pos 0))) ∷ floored (bias_of (apart (pos 0) (pos 16000))) ∷ []
    ≡ pos 1564 ∷ negsuc 1564 ∷ []
unfolding the_card entries entry_of exp_of root_for root_of root_bits of_bits lt eq mul div sub to_unsigned to_signed size
quotient_floored = refl
