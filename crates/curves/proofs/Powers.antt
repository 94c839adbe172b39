-- Floors of scaled numbers: they never fall, they take a power of two from the digits, and they are a fraction's.
use mathlib.Core.Path.{◌≡◌, sym, ap, ap₂, ◌∙◌}
use mathlib.Core.Logic.{◌⊎◌, inl, inr}
use Prim.Native.Nat.{ℕ, suc, ◌+◌, ◌-◌, ◌*◌, ◌/◌, ◌^◌, ◌≤◌, ◌<◌}
use native.Mathlib.Nat.{mul-le-mul_right, mul-div-mul_right, mul-div_cancel}
use native.Mathlib.Omega.{arith}
use lib.Pow.{pow_pos, pow-add}
use lib.IntN.{ℤ, pos, negsuc, sub_ℕ, ◌+ℤ◌}
use Rattle.whole.specs.Scale.{floor_scale, scale_up, scale_down}
use Rattle.whole.specs.laws.Biased.{below_or_not, sub_up, sub_down, sub_add}
use Rattle.curves.specs.Fraction.{raised, lowered}
use Rattle.curves.proofs.Order.{quotient_rises}

-- the same power: more digits have no smaller floor
pub scale_rises : (e : ℤ) (x y : ℕ) → x ≤ y → floor_scale x e ≤ floor_scale y e
scale_rises (pos e) x y h = mul-le-mul_right (2 ^ e) h
scale_rises (negsuc e) x y h = quotient_rises (2 ^ suc e) x y h

-- a power as a difference
pub parted : (e : ℤ) → sub_ℕ (raised e) (lowered e) ≡ e
parted (pos n) = sub_up n 0 (omega arith) ∙ ap pos (omega arith)
parted (negsuc n) = sub_down 0 (suc n) (omega arith) ∙ ap negsuc (omega arith)

-- the floor of the fraction that the difference makes
pub scale_is : (x up down : ℕ) → floor_scale x (sub_ℕ up down) ≡ x * 2 ^ up / 2 ^ down
scale_is x up down = split (below_or_not up down)
  where
    split : (up < down) ⊎ (down ≤ up) → floor_scale x (sub_ℕ up down) ≡ x * 2 ^ up / 2 ^ down
    split (inl h) =
        let e : down - up + up ≡ down = omega arith in
        scale_down x up down h ∙ sym (mul-div-mul_right x (2 ^ (down - up)) (pow_pos up))
        ∙ ap (λ (n : ℕ). x * 2 ^ up / n) (sym (pow-add 2 (down - up) up) ∙ ap (λ (n : ℕ). 2 ^ n) e)
    split (inr h) =
        let e : up - down + down ≡ up = omega arith in
        let g : x * 2 ^ (up - down) * 2 ^ down ≡ x * 2 ^ up =
        omega (arith, ap (λ (n : ℕ). x * n) (sym (pow-add 2 (up - down) down) ∙ ap (λ (n : ℕ). 2 ^ n) e)) in
        scale_up x up down h ∙ sym (mul-div_cancel (x * 2 ^ (up - down)) (pow_pos down))
        ∙ ap (λ (n : ℕ). n / 2 ^ down) g

-- a product's, by the fractions of both
pub scale_times : (x y : ℕ) (e f : ℤ) →
    floor_scale (x * y) (e +ℤ f)
    ≡ (x * 2 ^ raised e) * (y * 2 ^ raised f) / (2 ^ lowered e * 2 ^ lowered f)
scale_times x y e f =
    let u = raised e in
    let v = raised f in
    let g : x * y * 2 ^ (u + v) ≡ (x * 2 ^ u) * (y * 2 ^ v) =
    omega (arith, ap (λ (n : ℕ). x * y * n) (pow-add 2 u v)) in
    ap (floor_scale (x * y)) (ap₂ ◌+ℤ◌ (sym (parted e)) (sym (parted f)) ∙ sub_add u (lowered e) v (lowered f))
    ∙ scale_is (x * y) (u + v) (lowered e + lowered f) ∙ ap₂ ◌/◌ g (pow-add 2 (lowered e) (lowered f))

-- places taken from the power into the digits
pub scale_moves : (x k : ℕ) (e : ℤ) → floor_scale x (e +ℤ pos k) ≡ floor_scale (x * 2 ^ k) e
scale_moves x k e =
    let u = raised e in
    let d = lowered e in
    let g : x * 2 ^ (u + k) ≡ x * 2 ^ k * 2 ^ u = omega (arith, ap (λ (n : ℕ). x * n) (pow-add 2 u k)) in
    let z : d + 0 ≡ d = omega arith in
    ap (λ (y : ℤ). floor_scale x (y +ℤ pos k)) (sym (parted e))
    ∙ ap (λ (y : ℤ). floor_scale x (sub_ℕ u d +ℤ y)) (sym (sub_up k 0 (omega arith) ∙ ap pos (omega arith)))
    ∙ ap (floor_scale x) (sub_add u d k 0) ∙ scale_is x (u + k) (d + 0)
    ∙ ap₂ (λ (a b : ℕ). a / 2 ^ b) g z ∙ sym (scale_is (x * 2 ^ k) u d) ∙ ap (floor_scale (x * 2 ^ k)) (parted e)
