-- The mantissa never falls along an octave, nor across its end; from the table's rule, which is one computed test.
use mathlib.Core.Path.{◌≡◌, refl}
use mathlib.Core.Logic.{◌⊎◌, inl, inr}
use Prim.Native.Nat.{ℕ, zero, suc, ◌+◌, ◌-◌, ◌*◌, ◌/◌, ◌%◌, ◌^◌, ◌≤◌, ◌<◌}
use native.Mathlib.Nat.{le_trans, le_refl, mul-le-mul, mul-le-mul_left}
use native.Mathlib.Omega.{arith}
use lib.Pow.{pow_mono}
use Rattle.whole.specs.laws.Biased.{below_or_not}
use Rattle.octave.specs.Table.{points, steps, parts, places, entries, entry_of, mantissa_of, entry_rises, way_within}
use Rattle.octave.specs.Table.{mantissa_size}

-- entries further on are no lower
entries_rise : (i k : ℕ) → i + k ≤ points → entry_of i ≤ entry_of (i + k)
entries_rise i zero h = let e : i + 0 ≡ i = omega arith in rw e (le_refl (entry_of i))
entries_rise i (suc k) h =
    let e : i + suc k ≡ suc (i + k) = omega arith in
    rw e (le_trans (entries_rise i k (omega arith)) (entry_rises (i + k) (omega arith)))

-- from one step, or from an earlier one
pub mantissa_rises : (f g : ℕ) → f ≤ g → g < parts → mantissa_of f ≤ mantissa_of g
mantissa_rises f g h l = split (below_or_not (f / steps) (g / steps))
  where
    split : (f / steps < g / steps) ⊎ (g / steps ≤ f / steps) → mantissa_of f ≤ mantissa_of g
    split (inl k) =
        let j = f / steps in
        let i = g / steps in
        let n = i - suc j in
        let e : suc j + n ≡ i = omega arith in
        let far : entry_of (suc j) ≤ entry_of i = rw e at (entries_rise (suc j) n (omega arith)) in
        let way = way_within (entry_of (suc j) - entry_of j) f in
        let near = entry_rises j (omega arith) in omega arith
    split (inr k) =
        let e : f / steps ≡ g / steps = omega arith in
        let r : f % steps ≤ g % steps = omega arith in
        let d = entry_of (suc (g / steps)) - entry_of (g / steps) in
        let s : d * (f % steps) ≤ d * (g % steps) = mul-le-mul_left d r in rw e (omega arith)

-- at the foot of a later octave no mantissa is less than half of one below
pub mantissa_across : (f g k : ℕ) → f < parts → g < parts → mantissa_of f ≤ mantissa_of g * 2 ^ suc k
mantissa_across f g k h l =
    let a = (mantissa_size f h).high in
    let b = (mantissa_size g l).low in
    let c : 2 ≤ 2 ^ suc k = pow_mono {i = 1} {j = suc k} (omega arith) in
    let d : 2 ^ places * 2 ≤ mantissa_of g * 2 ^ suc k = mul-le-mul b c in omega arith

-- at the foot of the first it is one
pub mantissa_foot : mantissa_of 0 ≡ 2 ^ places
unfolding entries entry_of
mantissa_foot = refl
