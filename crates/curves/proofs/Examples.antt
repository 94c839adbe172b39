-- Computed: what the theorems speak of is there, at biases short of overload; and each divided branch does go downhill.
use mathlib.Core.Path.{◌≡◌, refl}
use mathlib.Core.Bool.{false}
use mathlib.Core.List.{List, [], ◌∷◌, map}
use Prim.Native.Nat.{◌*◌, ◌^◌}
use lib.ListN.{replicate}
use lib.IntN.{ℤ, pos, negsuc, nat_abs, sub_ℕ, ◌-ℤ◌, ◌*ℤ◌}
use lib.Ieee.{of_bits, lt, eq, mul, div, sub, to_unsigned, to_signed, size}
use Rattle.roots.specs.Root.{root_of, root_bits}
use Rattle.octave.specs.Table.{entries, entry_of}
use Rattle.scaling.specs.Scaled.{exp_of}
use Rattle.terms.specs.Rows.{sf, Row, row1, row2, row3, row4, row5, row6, row7, row8}
use Rattle.terms.specs.Values.{value_of, bias_of}
use Rattle.std.specs.Prelude.{None}
use Rattle.rows.specs.Ticks.{root_for, row_ticks}
use Rattle.rows.specs.Outcome.{told_over, outcome_across}
use Rattle.polarity.specs.Polarity.{outcome_of}
use Rattle.curves.specs.Fraction.{top, bottom, in_ticks}
use Rattle.curves.specs.Exchange.{Exchanged}
use Rattle.curves.proofs.Sample.{the_card, lifted, apart}

-- at these microvolts nothing of the card overloads
abbrev volts : List ℤ
volts = negsuc 15999 ∷ negsuc 0 ∷ pos 0 ∷ pos 8000 ∷ pos 16000 ∷ []

pub short_of_overload : map (λ (v : ℤ). told_over (outcome_of the_card (lifted v))) volts ≡ replicate 5 None
unfolding the_card outcome_of outcome_across entries entry_of exp_of of_bits lt eq mul div sub to_unsigned to_signed size
short_of_overload = refl

-- a row's ticks at each of them
abbrev curve : Row → List ℤ
curve r = map (λ (v : ℤ). row_ticks the_card (bias_of (lifted v)) r) volts

-- the branches 2, 3, 4 and 7
pub curves_rise : map curve (row2 ∷ row3 ∷ row4 ∷ row7 ∷ [])
    ≡ (negsuc 1023 ∷ negsuc 0 ∷ pos 0 ∷ pos 848 ∷ pos 2048 ∷ [])
    ∷ (negsuc 1023 ∷ negsuc 0 ∷ pos 0 ∷ pos 848 ∷ pos 2048 ∷ [])
    ∷ (negsuc 299 ∷ negsuc 0 ∷ pos 0 ∷ pos 193 ∷ pos 424 ∷ [])
    ∷ (negsuc 511 ∷ negsuc 0 ∷ pos 0 ∷ pos 424 ∷ pos 1024 ∷ [])
    ∷ []
unfolding the_card entries entry_of exp_of of_bits lt eq mul div sub to_unsigned to_signed size
curves_rise = refl

-- branch 7 at 8,000 microvolts: its 424 ticks are 162,201 parts of 2^20 short of the exact product
pub part_of_a_tick :
    (let x = in_ticks (value_of the_card sf) in
    let g = exp_of (pos 8000) 16000000 in
    nat_abs (pos 424 *ℤ pos (bottom x * bottom g) -ℤ pos (top x) *ℤ sub_ℕ (top g) (bottom g)))
    ≡ 162201 * 2 ^ 30
unfolding the_card entries entry_of exp_of of_bits lt eq mul div sub to_unsigned to_signed size
part_of_a_tick = refl

-- E1 and C2 exchanged
pub exchanged_apart : (e c : ℤ) → Exchanged (apart e c) (apart c e)
exchanged_apart e c = record { emitter = refl; collector = refl; base = refl }

pub main_turns : (row_ticks the_card (bias_of (apart (pos 16000) (pos 0))) row1 ≡ pos 1564)
    × (row_ticks the_card (bias_of (apart (pos 0) (pos 16000))) row1 ≡ negsuc 1563)
unfolding the_card entries entry_of exp_of root_for root_of root_bits of_bits lt eq mul div sub to_unsigned to_signed size
main_turns = (refl, refl)

-- a branch that is divided goes downhill here and there: a microvolt more, and a tick less
pub quotients_dip :
    row_ticks the_card (bias_of (apart (pos 1020) (pos 0))) row1
    ∷ row_ticks the_card (bias_of (apart (pos 1021) (pos 0))) row1
    ∷ row_ticks the_card (bias_of (lifted (pos 3974))) row5
    ∷ row_ticks the_card (bias_of (lifted (pos 3975))) row5
    ∷ row_ticks the_card (bias_of (lifted (pos 563))) (row6 false)
    ∷ row_ticks the_card (bias_of (lifted (pos 564))) (row6 false)
    ∷ row_ticks the_card (bias_of (lifted (pos 1586))) row8
    ∷ row_ticks the_card (bias_of (lifted (pos 1587))) row8
    ∷ []
    ≡ pos 82 ∷ pos 81 ∷ pos 113 ∷ pos 112 ∷ pos 62 ∷ pos 61 ∷ pos 143 ∷ pos 142 ∷ []
unfolding the_card entries entry_of exp_of root_for root_of root_bits of_bits lt eq mul div sub to_unsigned to_signed size
quotients_dip = refl
