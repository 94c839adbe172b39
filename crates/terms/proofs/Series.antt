-- A resistor's two numbers: what the kept voltages of its roles say, and that one without a value lets nothing through.
use mathlib.Core.Path.{◌≡◌, sym, ap, ap₂, ◌∙◌}
use mathlib.Core.List.{List, map}
use mathlib.Core.Logic.{◌⊎◌, inl, inr}
use Prim.Native.Nat.{ℕ, ◌-◌, ◌*◌, ◌≤◌, ◌<◌}
use native.Mathlib.Nat.{zero-mul}
use native.Mathlib.Omega.{arith}
use lib.Dec.{lit<}
use lib.ListN.{length, get_or}
use lib.IntN.{ℤ, pos, sub_ℕ, ◌+ℤ◌, ◌-ℤ◌}
use Rattle.whole.specs.laws.Biased.{sub_up, sub_down, sub_eq, below_or_not}
use Rattle.reverse.specs.OfVolts.Volts.{span, given_back, across_of}
use Rattle.reverse.specs.OfVolts.laws.Keeping.{given_back_at}
use Rattle.reverse.specs.OfVolts.laws.Across.{across_is}
use Rattle.float.specs.declared.Split.{Split}
use Rattle.reverse.specs.OfScaling.Scaled.{value_at, times, whole_number, tick_places, whole_ticks, tick_limit}
use Rattle.reverse.specs.OfScaling.inner.Shifts.{UpTo, through_of}
use Rattle.reverse.proofs.OfScaling.Scaling.{upto_equal, through_upto}
use Rattle.terms.specs.Values.{rise}
use Rattle.terms.specs.inner.Terms.{Lead, Led}
use Rattle.terms.proofs.Eighth.{nothing}

-- the difference of kept voltages, as far as it is above 0
rise_sub : (a b : ℕ) → rise (sub_ℕ a b) ≡ a - b
rise_sub a b = go (below_or_not a b)
  where
    go : (a < b) ⊎ (b ≤ a) → rise (sub_ℕ a b) ≡ a - b
    go (inl h) = ap rise (sub_down a b h) ∙ omega arith
    go (inr h) = ap rise (sub_up a b h)

-- of two roles
rise_at : (v : List ℕ) {p q : ℕ} → p < length v → q < length v → get_or v q 0 ≤ span →
    rise (get_or (map given_back v) p (pos 0) -ℤ get_or (map given_back v) q (pos 0)) ≡ get_or v p 0 - get_or v q 0
rise_at v {p} {q} h k near =
    let a = get_or v p 0 in
    let b = get_or v q 0 in
    ap rise
    (sym (ap₂ (λ (m n : ℤ). m -ℤ n) (given_back_at v p h) (given_back_at v q k)) ∙ sym (across_is a b near)
    ∙ sub_eq (across_of a b) span a b (omega arith))
    ∙ rise_sub a b

-- nothing of no voltage
none_through : (g : Split) (d : ℕ) → d ≡ 0 → UpTo tick_limit 0 (whole_ticks (times (value_at g) (whole_number d)))
none_through g d e =
    let z : g.a * d ≡ 0 = ap (λ (n : ℕ). g.a * n) e ∙ omega arith in
    rw z (upto_equal (sym (nothing ((value_at g).power +ℤ pos 0 +ℤ pos tick_places))) (lit< tt))

-- nothing without a value
pub idle_through : (g : Split) → g.a ≡ 0 → (d : ℕ) →
    UpTo tick_limit 0 (whole_ticks (times (value_at g) (whole_number d)))
idle_through g e d =
    rw (e, zero-mul d) (upto_equal (sym (nothing ((value_at g).power +ℤ pos 0 +ℤ pos tick_places))) (lit< tt))

module _ {g : Split} {v : List ℕ} {p q : ℕ} (l : Lead g v p q) where
  abbrev there : ℤ
  there = get_or (map given_back v) p (pos 0) -ℤ get_or (map given_back v) q (pos 0)

  abbrev back : ℤ
  back = get_or (map given_back v) q (pos 0) -ℤ get_or (map given_back v) p (pos 0)

  rises : rise there ≡ get_or v p 0 - get_or v q 0
  rises = rise_at v (rw l.long l.from) (rw l.long l.to) (l.near.each q)

  falls : rise back ≡ get_or v q 0 - get_or v p 0
  falls = rise_at v (rw l.long l.to) (rw l.long l.from) (l.near.each p)

  -- the second role is higher
  pub led_back : {t : ℕ} → get_or v p 0 < get_or v q 0 → t ≡ through_of g (get_or v q 0 - get_or v p 0) →
      Led g there back (record { plus = 0; minus = t })
  led_back h e =
      record {
        plus = none_through g (rise there) (rises ∙ omega arith);
        minus = rw (e, falls) (through_upto g (get_or v q 0 - get_or v p 0));
      }

  -- or not
  pub led_there : {t : ℕ} → get_or v q 0 ≤ get_or v p 0 → t ≡ through_of g (get_or v p 0 - get_or v q 0) →
      Led g there back (record { plus = t; minus = 0 })
  led_there h e =
      record {
        plus = rw (e, rises) (through_upto g (get_or v p 0 - get_or v q 0));
        minus = none_through g (rise back) (falls ∙ omega arith);
      }
