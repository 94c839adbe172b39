-- A float from the least octave to the most: its whole part, and whether it is that.
use mathlib.Core.Path.{◌≡◌, refl, sym, ap, subst, ◌∙◌}
use mathlib.Core.Bool.{Bool, true, false, not, ◌&&◌}
use Prim.Native.Nat.{ℕ, ◌-◌, ◌*◌, ◌/◌, ◌^◌, ◌≤◌, ◌<◌, min}
use native.Mathlib.Omega.{arith}
use lib.Dec.{T, ltb, lt→ltb, le→leb, not_T}
use lib.IntN.{pos}
use lib.Ieee.{Float, nan, inf, fin, binary64, lt, le, of_bits, to_bits, of_int, up, down, to_unsigned, in_unsigned, in_float}
use lib.Ieee.{whole, is_nan, fits}
use lib.Ieee.Back.{unsigned_back, Float-back_unsigned}
use lib.Ieee.Bits.{of_bits-to_bits, is_true, is_false}
use lib.Ieee.Fits.{of_int-fits, and_i, and_l}
use lib.Ieee.Positive.{positive, between, above_of_le, le→cross, num, den, den_pos}
use Rattle.loading.specs.Octave.{octave_least, octave_most, ten_million, fifty_million, whole_part}
use Rattle.loading.proofs.Whole.{whole_least, whole_most, over_minus_one, below_top}

least_is : ten_million ≡ fin false 78125 (pos 7)
unfolding of_bits
least_is = refl

most_is : fifty_million ≡ fin false 390625 (pos 7)
unfolding of_bits
most_is = refl

pub holds : {b : Bool} → b ≡ true → T b
holds h = subst T (sym h) tt

counted_no_nan : (x : Float) → T (in_unsigned binary64 64 x) → T (not (is_nan x))
unfolding in_unsigned is_nan
counted_no_nan nan h = absurd h
counted_no_nan (inf s) h = tt
counted_no_nan (fin s m e) h = tt

positive_no_nan : (x : Float) → T (positive x) → T (not (is_nan x))
unfolding is_nan
positive_no_nan nan h = absurd h
positive_no_nan (inf s) h = tt
positive_no_nan (fin s m e) h = tt

-- in the range a whole number is one that is counted, and the other way round
counted : (x : Float) → T (positive x) → whole_part x ≤ octave_most → T (whole binary64 x) → T (in_unsigned binary64 64 x)
unfolding in_unsigned to_unsigned
counted nan p n w = absurd p
counted (inf s) p n w = absurd p
counted (fin true m e) p n w = absurd p
counted (fin false m e) p n w =
    and_i (whole binary64 (fin false m e)) (ltb (m * up e / down e) (2 ^ 64)) w
    (lt→ltb (m * up e / down e) (2 ^ 64) (uncapped (m * up e / down e) n))
  where
    uncapped : (q : ℕ) → min q (2 ^ 64 - 1) ≤ octave_most → q < 2 ^ 64
    uncapped q h = omega arith

counted_whole : (x : Float) → T (in_unsigned binary64 64 x) → T (whole binary64 x)
unfolding in_unsigned
counted_whole nan h = absurd h
counted_whole (inf s) h = absurd h
counted_whole (fin s m e) h = and_l (whole binary64 (fin s m e)) (not s && ltb (m * up e / down e) (2 ^ 64)) h

module _ (x : Float) (a : le ten_million x ≡ true) (b : le x fifty_million ≡ true) where
  pub from : T (le (fin false 78125 (pos 7)) x)
  from = subst (λ (k : Float). T (le k x)) least_is (holds a)

  to : T (le x (fin false 390625 (pos 7)))
  to = subst (λ (k : Float). T (le x k)) most_is (holds b)

  pub in_range : T (positive x)
  in_range = between (fin false 78125 (pos 7)) x (fin false 390625 (pos 7)) tt tt from to

  over : octave_least * den x ≤ num x
  over = let h = le→cross (fin false 78125 (pos 7)) x tt in_range from in omega arith

  under : num x ≤ octave_most * den x
  under = let h = le→cross x (fin false 390625 (pos 7)) in_range tt to in omega arith

  pub octave_least_lem : octave_least ≤ whole_part x
  octave_least_lem = whole_least x in_range octave_least (omega arith) over

  pub octave_most_lem : whole_part x ≤ octave_most
  octave_most_lem = whole_most x in_range octave_most (let u = under in let d = den_pos x in omega arith)

  pub can_cut : T (lt (fin true 1 (pos 0)) x) × T (lt x (fin false 1 (pos 64)))
  can_cut = (
    over_minus_one x (above_of_le (fin false 78125 (pos 7)) x tt from),
    below_top x in_range (let u = under in let d = den_pos x in omega arith),
  )

  pub no_nan : T (not (is_nan x))
  no_nan = positive_no_nan x in_range

  module _ (f : T (fits binary64 x)) (n : ℕ) (e : n ≡ whole_part x) where
    pub exact : T (in_float binary64 (pos n))
    unfolding in_float
    exact = le→leb n (2 ^ 53) (let m = octave_most_lem in omega arith)

    back : T (in_unsigned binary64 64 (of_int binary64 (pos n))) × (to_unsigned 64 (of_int binary64 (pos n)) ≡ n)
    back = unsigned_back binary64 64 n exact (let m = octave_most_lem in omega arith)

    pub made_no_nan : T (not (is_nan (of_int binary64 (pos n))))
    made_no_nan = counted_no_nan (of_int binary64 (pos n)) back.0

    pub is_whole : to_bits binary64 (of_int binary64 (pos n)) ≡ to_bits binary64 x → whole binary64 x ≡ true
    is_whole h =
        let i : of_int binary64 (pos n) ≡ x = sym
        (of_bits-to_bits binary64 (of_int binary64 (pos n)) (of_int-fits binary64 (pos n))) ∙ ap (of_bits binary64) h
        ∙ of_bits-to_bits binary64 x f in
        is_true (whole binary64 x)
        (subst (λ (k : Float). T (whole binary64 k)) i (counted_whole (of_int binary64 (pos n)) back.0))

    made_again : T (whole binary64 x) → to_bits binary64 (of_int binary64 (pos n)) ≡ to_bits binary64 x
    made_again w =
        ap (λ (k : ℕ). to_bits binary64 (of_int binary64 (pos k))) e
        ∙ ap (to_bits binary64) (Float-back_unsigned binary64 64 x f (counted x in_range octave_most_lem w)).1

    pub not_whole : (to_bits binary64 (of_int binary64 (pos n)) ≡ to_bits binary64 x → ⊥) → whole binary64 x ≡ false
    not_whole h =
        is_false (whole binary64 x) (not_T (whole binary64 x) (λ (w : T (whole binary64 x)). h (made_again w)))
