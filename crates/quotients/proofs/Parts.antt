-- n * 2^s / d by the quotient and the remainder of n, held at a limit, over plain numbers.
use mathlib.Core.Path.{◌≡◌, sym, ap, ◌∙◌}
use Prim.Native.Nat.{ℕ, ◌+◌, ◌*◌, ◌-◌, ◌/◌, ◌%◌, ◌^◌, ◌≤◌, ◌<◌}
use native.Mathlib.Nat.{mul-le-mul, mul-le-mul_right, mul-add-div_right, div-add-mod', div-mul-le_self, mod-lt}
use native.Mathlib.Omega.{arith}
use lib.Pow.{pow_pos, pow_mono}
use Rattle.std.specs.Prelude.{min}
use Rattle.whole.specs.Scale.{held_at, reaches}
use Rattle.quotients.specs.Quotient.{shifted_quotient, divisor_most, shift_most, Dividing}
use Rattle.quotients.proofs.Shifts.{uncut, min_held}

-- a number below the largest divisor keeps within 64 bits
short : (n s : ℕ) → s ≤ shift_most → n < divisor_most → (n * 2 ^ s) % 2 ^ 64 ≡ n * 2 ^ s
short n s l h =
    let a : n ≤ divisor_most - 1 = omega arith in
    let b = pow_mono l in
    let c : 2 ^ s ≤ 2 ^ shift_most = b in
    uncut n s (omega (arith, mul-le-mul a c))

module _ (n s d over : ℕ) (k : Dividing s d) where
  pub at_once : n < divisor_most → held_at over ((n * 2 ^ s) % 2 ^ 64 / d) ≡ held_at over (shifted_quotient n s d)
  at_once h = ap (λ (x : ℕ). held_at over (x / d)) (short n s k.shift_small h)

  by_parts : n / d * 2 ^ s + n % d * 2 ^ s / d ≡ shifted_quotient n s d
  by_parts =
      sym (mul-add-div_right k.divisor_there (n / d * 2 ^ s) (n % d * 2 ^ s))
      ∙ ap (λ (x : ℕ). x / d) (omega (arith, ap (λ (x : ℕ). x * 2 ^ s) (div-add-mod' n d)))

  rest_is : (n % d * 2 ^ s) % 2 ^ 64 ≡ n % d * 2 ^ s
  rest_is = short (n % d) s k.shift_small (omega (arith, mod-lt n k.divisor_there, k))

  pub beyond : over / 2 ^ s < n / d → over ≡ held_at over (shifted_quotient n s d)
  beyond h =
      let l : over ≤ shifted_quotient n s d =
      omega (arith, by_parts, mul-le-mul_right (2 ^ s) h, div-add-mod' over (2 ^ s), mod-lt over (pow_pos s)) in
      sym (reaches over (shifted_quotient n s d) l)

  module _ (l : over < 2 ^ 64) (h : n / d ≤ over / 2 ^ s) where
    base_low : n / d * 2 ^ s ≤ over
    base_low = omega (arith, mul-le-mul_right (2 ^ s) h, div-mul-le_self over (2 ^ s))

    base_is : (n / d * 2 ^ s) % 2 ^ 64 ≡ n / d * 2 ^ s
    base_is = uncut (n / d) s (omega (arith, base_low))

    pub base_within : (n / d * 2 ^ s) % 2 ^ 64 ≤ over
    base_within = omega (arith, base_is, base_low)

    whole_is : (n / d * 2 ^ s) % 2 ^ 64 + (n % d * 2 ^ s) % 2 ^ 64 / d ≡ shifted_quotient n s d
    whole_is = rw (base_is, rest_is) by_parts

    -- both parts, the second held at what the first leaves of the limit
    pub held_parts : {r : ℕ} → r ≡ min ((n % d * 2 ^ s) % 2 ^ 64 / d) (over - (n / d * 2 ^ s) % 2 ^ 64) →
        (n / d * 2 ^ s) % 2 ^ 64 + r ≡ held_at over (shifted_quotient n s d)
    held_parts e = omega (arith, e, whole_is, base_within) ∙ min_held over (shifted_quotient n s d)
