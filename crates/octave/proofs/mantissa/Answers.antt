-- A mantissa lies between two entries, and so within its word.
use mathlib.Core.Path.{◌≡◌, ap, ap₂, ◌∙◌}
use Prim.Native.Nat.{ℕ, suc, ◌+◌, ◌-◌, ◌*◌, ◌/◌, ◌%◌, ◌^◌, ◌≤◌}
use native.Mathlib.Nat.{mul-le-mul}
use native.Mathlib.Numerals.{add-one}
use native.Mathlib.Omega.{arith}
use Rattle.octave.specs.Table.{places, steps, entry_of, entry_high, entry_rises, way_within}
use Rattle.octave.proofs.mantissa.Goals as goal
use Rattle.octave.proofs.mantissa.Goals.{After-entry-high}

high_is : (c : After-entry-high) → c.entry-high.result ≡ entry_of (suc (c.args.f / steps))
high_is c = c.entry-high.ensures ∙ ap entry_of (add-one (c.args.f / steps))

-- the two entries rise to twice the first of the table at most
record Rise (t u : ℕ) : Type 0 where
  up : t ≤ u
  top : u ≤ 2 ^ suc places

between : (c : After-entry-high) → Rise c.entry-low.result c.entry-high.result
between c =
    let h = high_is c in
    let j = c.args.f / steps in
    record { up = omega (arith, entry_rises j (omega arith)); top = omega (arith, entry_high (suc j) (omega arith)) }

pub overflow_sub-result : goal.overflow_sub-result
overflow_sub-result c = (between (goal.at.overflow_sub-result c).After-entry-high).up

pub overflow_mul-result : goal.overflow_mul-result
overflow_mul-result c =
    let s = between (goal.at.overflow_mul-result c).After-entry-high in
    let d : c.entry-high.result - c.entry-low.result ≤ 2 ^ suc places = omega arith in
    let r : c.args.f % steps ≤ steps = omega arith in
    omega (arith, mul-le-mul d r)

pub overflow_add-result : goal.overflow_add-result
overflow_add-result c =
    omega (
      arith,
      between (goal.at.overflow_add-result c).After-entry-high,
      way_within (c.entry-high.result - c.entry-low.result) c.args.f,
    )

pub returns : goal.returns
returns c =
    ap₂ (λ (x y : ℕ). x + (y - x) * (c.args.f % steps) / steps) c.entry-low.ensures
    (high_is (goal.at.returns c).After-entry-high)
