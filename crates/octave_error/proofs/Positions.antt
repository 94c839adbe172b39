-- The exponential is near the exact one at every position: by the law on chords from the points to what is between
-- them, and one computed test over the steps.
use mathlib.Core.Path.{◌≡◌, sym, subst}
use mathlib.Core.Bool.{Bool}
use Prim.Native.Nat.{ℕ, zero, suc, ◌+◌, ◌-◌, ◌*◌, ◌/◌, ◌%◌, ◌^◌, ◌≤◌, ◌<◌}
use native.Mathlib.Nat.{le_of_lt, add-zero}
use native.Mathlib.Numerals.{add-one}
use native.Mathlib.Omega.{arith}
use lib.Dec.{leb, leb→le}
use lib.Pow.{pow_pos}
use Rattle.octave.specs.Table.{places, points, steps, parts, entries, entry_of, mantissa_of}
use Rattle.octave.specs.Table.{rule, entry_rises, entry_low}
use Rattle.whole.specs.laws.Every.{at_each}
use Rattle.octave_error.specs.Near.{million, Near}
use Rattle.octave_error.proofs.Powers.{power_is, power_parted, next_upper, next_lower, raise_upper, raise_lower}
use Rattle.octave_error.proofs.Powers.{raise_strictly, raise_less, raise_more}
use Rattle.octave_error.proofs.Chords.{chord_upper, chord_lower, chord_above, chord_below}
use Rattle.octave_error.proofs.Chords.{floor, floor_low, floor_high, less_a_part}

-- ---- the entries

-- the first entry
abbrev one : ℕ
one = 2 ^ places

entry_most : (j : ℕ) → j ≤ points → entry_of j ^ points ≤ 2 ^ j * one ^ points
entry_most j h = subst (λ (x : ℕ). entry_of j ^ points ≤ x) (power_is points places j) (rule j h).within

entry_least : (j : ℕ) → j ≤ points → 2 ^ j * one ^ points < suc (entry_of j) ^ points
entry_least j h = subst (λ (x : ℕ). x < suc (entry_of j) ^ points) (power_is points places j) (rule j h).greatest

next_most : (j : ℕ) → j < points → entry_of (suc j) ^ points ≤ 2 ^ j * suc (entry_of 1) ^ points
next_most j h =
    next_upper points one j (entry_of (suc j)) (suc (entry_of 1)) (entry_most (suc j) h) (entry_least 1 (omega arith))

next_least : (j : ℕ) → j < points → 2 ^ j * entry_of 1 ^ points ≤ suc (entry_of (suc j)) ^ points
next_least j h =
    next_lower points one j (suc (entry_of (suc j))) (entry_of 1) (entry_least (suc j) h) (entry_most 1 (omega arith))

-- ---- the steps: the chord of the bounds against the power of two at r of all shares

upper_chord : ℕ → ℕ
upper_chord r = (steps - r) * one + r * suc (entry_of 1)

lower_chord : ℕ → ℕ
lower_chord r = (steps - r) * one + r * entry_of 1

step_above : ℕ → Bool
step_above r =
    leb (suc ((million * upper_chord r) ^ points * one)) ((suc million * steps * one) ^ points * entry_of r)

-- at the first step, which is a point, there is nothing to spare: it is left out
step_below : ℕ → Bool
step_below r =
    leb ((steps * one * one) ^ points * suc (entry_of (suc r))) ((lower_chord (suc r) * (one - 1)) ^ points * one)

step_above_lem : (r : ℕ) → r < steps → (million * upper_chord r) ^ parts < (suc million * steps * one) ^ parts * 2 ^ r
unfolding entries entry_of upper_chord step_above
step_above_lem r h =
    raise_less points (million * upper_chord r) (suc million * steps * one) (entry_of r) one (2 ^ r) (omega arith)
    (leb→le _ _ (at_each step_above steps tt r h)) (entry_most r (omega arith))

step_below_lem : (r : ℕ) → 0 < r → r < steps → (steps * one * one) ^ parts * 2 ^ r < (lower_chord r * (one - 1)) ^ parts
unfolding entries entry_of lower_chord step_below
step_below_lem (suc r) p h =
    raise_more points (lower_chord (suc r) * (one - 1)) (steps * one * one) (suc (entry_of (suc r))) one (2 ^ suc r)
    (omega arith) (leb→le _ _ (at_each step_below (steps - 1) tt r (omega arith)))
    (entry_least (suc r) (omega arith))
step_below_lem zero p h = elim p [ ]

-- ---- every position

-- at r shares from the point j, so that it is below parts
module _ (j r : ℕ) (jh : j < points) (rh : r < steps) where
  abbrev near : ℕ
  near = entry_of j

  abbrev far : ℕ
  far = entry_of (suc j)

  abbrev mantissa : ℕ
  mantissa = floor steps (steps - r) r near far (omega arith) (entry_rises j jh) (omega arith)

  above : (million * mantissa) ^ parts < suc million ^ parts * (one ^ parts * (2 ^ (j * steps) * 2 ^ r))
  unfolding upper_chord
  above =
      chord_above parts million (suc million) steps one mantissa ((steps - r) * near + r * far) (upper_chord r)
      (2 ^ (j * steps)) (2 ^ r) (pow_pos (j * steps))
      (floor_low steps (steps - r) r near far (omega arith) (entry_rises j jh) (omega arith))
      (raise_upper points steps j ((steps - r) * near + r * far) (upper_chord r)
      (chord_upper points (2 ^ j) (steps - r) r near far one (suc (entry_of 1)) (omega arith) (omega arith)
      (entry_most j (omega arith)) (next_most j jh)))
      (step_above_lem r rh)

  below_inside : 0 < r → one ^ parts * (2 ^ (j * steps) * 2 ^ r) < suc mantissa ^ parts
  unfolding lower_chord
  below_inside p =
      let c = (steps - r) * suc near + r * suc far in
      let low : one - 1 ≤ mantissa = omega (arith, entry_low j (omega arith)) in
      let l =
      less_a_part steps (one - 1) c mantissa low
      (floor_high steps (steps - r) r near far (omega arith) (entry_rises j jh) (omega arith)) in
      chord_below parts (one - 1) one steps one (suc mantissa) c (lower_chord r) (2 ^ (j * steps)) (2 ^ r)
      (pow_pos (j * steps))
      (subst (λ (x : ℕ). c * (one - 1) ≤ steps * one * x) (add-one mantissa) l)
      (raise_lower points steps j c (lower_chord r)
      (chord_lower points (2 ^ j) (steps - r) r one (entry_of 1) (suc near) (suc far) (omega arith) (omega arith)
      (le_of_lt (entry_least j (omega arith))) (next_least j jh)))
      (step_below_lem r p rh)

-- at a point there is no chord
below : (j r : ℕ) (jh : j < points) (rh : r < steps) →
    one ^ parts * (2 ^ (j * steps) * 2 ^ r) < suc (mantissa j r jh rh) ^ parts
below j zero jh rh =
    let e : (entry_of (suc j) - entry_of j) * 0 / steps ≡ 0 = omega arith in
    subst (λ (x : ℕ). one ^ parts * (2 ^ (j * steps) * 2 ^ 0) < suc (entry_of j + x) ^ parts) (sym e)
    (subst (λ (x : ℕ). one ^ parts * (2 ^ (j * steps) * 2 ^ 0) < suc x ^ parts) (sym (add-zero (entry_of j)))
    (raise_strictly points steps j (suc (entry_of j)) one (omega arith) (entry_least j (omega arith))))
below j (suc r) jh rh = below_inside j (suc r) jh rh (omega arith)

-- at every position of an octave
pub positions_near : (f : ℕ) → f < parts → Near parts f (mantissa_of f)
positions_near f h =
    let j = f / steps in
    let r = f % steps in
    let jh : j < points = omega arith in
    let rh : r < steps = omega arith in
    let e : j * steps + r ≡ f = omega arith in
    let x = power_parted parts places (j * steps) r f e in
    record {
      above = subst (λ (y : ℕ). (million * mantissa_of f) ^ parts < suc million ^ parts * y) x (above j r jh rh);
      below = subst (λ (y : ℕ). y < suc (mantissa_of f) ^ parts) x (below j r jh rh);
    }
