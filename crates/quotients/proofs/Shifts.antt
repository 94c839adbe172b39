-- Shifts of 64-bit words, over plain numbers, and what each way through `scale_up` and `floor_scale` returns.
use mathlib.Core.Path.{◌≡◌, sym, ap, ◌∙◌}
use Prim.Native.Nat.{ℕ, ◌*◌, ◌-◌, ◌/◌, ◌%◌, ◌^◌, ◌≤◌, ◌<◌}
use native.Mathlib.Nat.{zero-mul, mul-le-mul_right, lt_of_lt_of_le}
use native.Mathlib.Nat.{mod-eq_of_lt, div-add-mod', mod-lt, div-mul-le_self, div-eq_of_lt}
use native.Mathlib.Omega.{arith}
use lib.IntN.{sub_ℕ}
use lib.Pow.{pow_pos, pow_mono}
use Rattle.whole.specs.Scale.{floor_scale, held_at, reaches, stays_below, held_none, scale_up, scale_down}
use Rattle.whole.specs.laws.Biased.{below_or_not}
use mathlib.Core.Logic.{◌⊎◌, inl, inr}
use Rattle.std.specs.Prelude.{min}

-- the smaller of a number and its limit
pub min_held : (over t : ℕ) → min t over ≡ held_at over t
min_held over t = split (below_or_not t over)
  where
    split : (t < over) ⊎ (over ≤ t) → min t over ≡ held_at over t
    split (inl h) = let e : min t over ≡ t = omega arith in e ∙ sym (stays_below over t h)
    split (inr h) = let e : min t over ≡ over = omega arith in e ∙ sym (reaches over t h)

-- a product below 2^64 is not cut
pub uncut : (x s : ℕ) → x * 2 ^ s < 2 ^ 64 → (x * 2 ^ s) % 2 ^ 64 ≡ x * 2 ^ s
uncut x s h = mod-eq_of_lt h

module _ (x s over : ℕ) where
  fits : x ≤ (2 ^ 64 - 1) / 2 ^ s → x * 2 ^ s < 2 ^ 64
  fits h = omega (arith, mul-le-mul_right (2 ^ s) h, div-mul-le_self (2 ^ 64 - 1) (2 ^ s))

  pub up_none : x ≡ 0 → 0 ≡ held_at over (x * 2 ^ s)
  up_none e = sym (held_none over) ∙ ap (held_at over) (sym (ap (λ (y : ℕ). y * 2 ^ s) e ∙ zero-mul (2 ^ s)))

  pub up_fits : x ≤ (2 ^ 64 - 1) / 2 ^ s → held_at over ((x * 2 ^ s) % 2 ^ 64) ≡ held_at over (x * 2 ^ s)
  up_fits h = ap (held_at over) (uncut x s (fits h))

  -- where the product is too large
  pub up_over : over < 2 ^ 64 → (2 ^ 64 - 1) / 2 ^ s < x → over ≡ held_at over (x * 2 ^ s)
  up_over l h =
      let m = mul-le-mul_right (2 ^ s) h in
      let g : over ≤ x * 2 ^ s = omega (arith, m, div-add-mod' (2 ^ 64 - 1) (2 ^ s), mod-lt (2 ^ 64 - 1) (pow_pos s)) in
      sym (reaches over (x * 2 ^ s) g)

  -- where the shift is
  pub up_far : over < 2 ^ 64 → 0 < x → 64 ≤ s → over ≡ held_at over (x * 2 ^ s)
  up_far l h k = sym (reaches over (x * 2 ^ s) (omega (arith, pow_mono k, mul-le-mul_right (2 ^ s) h)))

module _ (x up down over : ℕ) where
  pub scaled_up : down ≤ up → held_at over (x * 2 ^ (up - down)) ≡ held_at over (floor_scale x (sub_ℕ up down))
  scaled_up h = ap (held_at over) (sym (scale_up x up down h))

  pub scaled_down : up < down → held_at over (x / 2 ^ (down - up)) ≡ held_at over (floor_scale x (sub_ℕ up down))
  scaled_down h = ap (held_at over) (sym (scale_down x up down h))

  pub scaled_far : x < 2 ^ 64 → up < down → 64 ≤ down - up → 0 ≡ held_at over (floor_scale x (sub_ℕ up down))
  scaled_far l h k =
      sym (held_none over)
      ∙ ap (held_at over) (sym (scale_down x up down h ∙ div-eq_of_lt (lt_of_lt_of_le l (pow_mono k))))
