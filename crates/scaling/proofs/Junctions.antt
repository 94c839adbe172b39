-- The exponential of a junction: from the kept voltages of its two roles to the definition's; and that it is one.
use mathlib.Core.Path.{◌≡◌, sym, ap, ap₂, ◌∙◌}
use mathlib.Core.List.{List, map}
use Prim.Native.Nat.{ℕ, ◌+◌, ◌*◌, ◌≤◌}
use native.Mathlib.Omega.{arith}
use lib.ListN.{get_or}
use lib.IntN.{ℤ, pos, nat_abs, sub_ℕ, ◌+ℤ◌, ◌-ℤ◌}
use Rattle.octave.specs.OfWhole.laws.Biased.{sub_up, sub_eq, sub_add}
use Rattle.octave.specs.OfVolts.Volts.{span, given_back, across_of}
use Rattle.octave.specs.OfVolts.laws.Keeping.{given_back_at}
use Rattle.octave.specs.OfVolts.laws.Across.{across_is, across_near}
use Rattle.octave.specs.declared.Exponential.{Exponential}
use Rattle.octave.specs.declared.Reciprocal.{Reciprocal}
use Rattle.octave.specs.Table.{places}
use Rattle.octave.specs.Exponential.{bias, exponential_of}
use Rattle.octave.specs.inner.Reciprocal as octave
use Rattle.octave.specs.laws.Places.{exponential_size, exponent_small}
use Rattle.scaling.specs.Scaled.{Scaled, exp_of}
use Rattle.scaling.specs.inner.Shifts.{exp_at, IsExp, Junction}
use Rattle.scaling.proofs.Scaling.{exponential_is}

module _ {table v : List ℕ} {p q : ℕ} {o : Reciprocal} (j : Junction table v p q o)
    {u : ℕ} (e : u ≡ across_of (get_or v p 0) (get_or v q 0)) where
  near : u ≤ 2 * span
  near = rw e (across_near (get_or v p 0) (get_or v q 0) (j.near.each p))

  pub junction_asked : octave.Askable table u o
  junction_asked = record { table_is = j.table_is; near = near; reciprocal = j.reciprocal }

  -- the raised difference is the difference of what is given back
  difference : sub_ℕ u span ≡ get_or (map given_back v) p (pos 0) -ℤ get_or (map given_back v) q (pos 0)
  difference =
      ap (λ (n : ℕ). sub_ℕ n span) e ∙ across_is (get_or v p 0) (get_or v q 0) (j.near.each q)
      ∙ ap₂ (λ (a b : ℤ). a -ℤ b) (given_back_at v p (rw j.long j.from))
      (given_back_at v q (rw j.long j.to))

  pub junction_is : {g : Exponential} → g ≡ exponential_of (sub_ℕ u span) o.w →
      IsExp o.w (get_or (map given_back v) p (pos 0) -ℤ get_or (map given_back v) q (pos 0)) g
  junction_is {g} h =
      let r = j.reciprocal.range in
      rw h
      (record {
        is = exponential_is u o.w r.least ∙ ap (λ (z : ℤ). exp_of z o.w) difference;
        sized = record { digits = exponential_size (sub_ℕ u span) o.w; small = exponent_small u o.w near r };
      })

-- ---- a voltage has one exponential, as the code has it

as_raised : (n k : ℕ) → nat_abs (sub_ℕ n k +ℤ sub_ℕ k 0) ≡ n
as_raised n k =
    ap nat_abs (sub_add n k k 0 ∙ sub_eq (n + k) (k + 0) n 0 (omega arith) ∙ sub_up n 0 (omega arith)) ∙ omega arith

pub unique_exponential : {w : ℕ} {v : ℤ} {g g' : Exponential} → IsExp w v g → IsExp w v g' → g ≡ g'
unfolding exp_at
unique_exponential {g = g} {g' = g'} h h' =
    let same = h.is ∙ sym h'.is in
    ap₂ (λ (m n : ℕ). record { m = m; n = n }) (ap (λ (x : Scaled). x.digits) same)
    (sym (as_raised g.n (bias + places))
    ∙ ap (λ (x : Scaled). nat_abs (x.power +ℤ sub_ℕ (bias + places) 0)) same
    ∙ as_raised g'.n (bias + places))
