-- Sizes and signs of integers.
use mathlib.Core.Path.{◌≡◌, refl, sym, ap, ◌∙◌}
use mathlib.Core.Bool.{Bool, true, false, cond}
use Prim.Native.Nat.{ℕ, suc, ◌+◌, ◌-◌, ◌≤◌, zero-le}
use native.Mathlib.Nat.{le_refl, le_of_eq}
use native.Mathlib.Omega.{arith}
use lib.Dec.{ltb}
use lib.IntN.{ℤ, pos, negsuc, nat_abs, neg_ℤ, ◌+ℤ◌, ◌-ℤ◌, +ℤ_idl, +ℤ_idr, +ℤ_invr, +ℤ_assoc, +ℤ_comm}
use Rattle.whole.specs.laws.Machine.{abs_neg}

-- ---- sizes

abs_sub : (t : Bool) (a b : ℕ) → nat_abs (cond t (negsuc (suc b - suc a)) (pos (a - suc b))) ≤ a + suc b
abs_sub true a b = omega arith
abs_sub false a b = omega arith

pub abs_add : (x y : ℤ) → nat_abs (x +ℤ y) ≤ nat_abs x + nat_abs y
abs_add (pos a) (pos b) = le_refl _
abs_add (pos a) (negsuc b) = abs_sub (ltb a (suc b)) a b
abs_add (negsuc a) (pos b) = omega (arith, abs_sub (ltb b (suc a)) b a)
abs_add (negsuc a) (negsuc b) = omega arith

-- what a branch gives to a node is at most its ticks in size, also where both its ends are there
pub abs_ends : (t u : Bool) (x : ℤ) → nat_abs (cond t x (pos 0) -ℤ cond u x (pos 0)) ≤ nat_abs x
abs_ends true true x = rw (+ℤ_invr x) zero-le
abs_ends true false x = rw (+ℤ_idr x) (le_refl _)
abs_ends false true x = rw (+ℤ_idl (neg_ℤ x)) (le_of_eq (abs_neg x))
abs_ends false false x = zero-le

-- ---- signs and order

pub turned : (t : Bool) (x : ℤ) → cond t (neg_ℤ x) (pos 0) ≡ neg_ℤ (cond t x (pos 0))
turned true x = refl
turned false x = refl

pub swap_inner : (a b c d : ℤ) → (a +ℤ b) +ℤ (c +ℤ d) ≡ (a +ℤ c) +ℤ (b +ℤ d)
swap_inner a b c d =
    +ℤ_assoc a b (c +ℤ d)
    ∙ ap (λ (z : ℤ). a +ℤ z) (sym (+ℤ_assoc b c d) ∙ ap (λ (z : ℤ). z +ℤ d) (+ℤ_comm b c) ∙ +ℤ_assoc c b d)
    ∙ sym (+ℤ_assoc a c (b +ℤ d))
