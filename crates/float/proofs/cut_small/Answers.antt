-- 64 less the leading zeros is the number of digits, and the shift gives 53.
use mathlib.Core.Path.{◌≡◌, refl, sym, ap, ap₂, ◌∙◌}
use Prim.Native.Nat.{ℕ, zero, suc, ◌+◌, ◌-◌, ◌*◌, ◌/◌, ◌%◌, ◌^◌, ◌<◌}
use native.Mathlib.Omega.{arith}
use lib.Count.{count_leading_zeros, leading_top}
use lib.Pow.{shl_exact}
use lib.Ieee.{size}
use lib.Ieee.Digits.{size-lt, size-le}
use Rattle.float.specs.Split.{whole_f}
use Rattle.float.proofs.Digits.{size_is, filled}
use Rattle.float.proofs.Units.{units_of, plain_split}
use Rattle.float.proofs.cut_small.Goals as goal

count : (n : ℕ) → (n ≡ 0 → ⊥) → n < 2 ^ 52 → count_leading_zeros 64 n + size n ≡ 64
count n h l =
    let t = leading_top 64 n (omega arith) (omega arith) in
    omega (arith, size_is t.0 n t.2 t.3, t.1)

shifted : (n z : ℕ) → n < 2 ^ 52 → z ≡ size n → n * 2 ^ (53 - z) % 2 ^ 64 ≡ whole_f n
shifted n z l e =
    ap (λ (x : ℕ). n * 2 ^ (53 - x) % 2 ^ 64) e
    ∙ shl_exact (size n) (53 - size n) 64 (size-lt n) (omega (arith, size-le n 53 (omega arith)))

some_units : (n z : ℕ) → (n ≡ 0 → ⊥) → n < 2 ^ 52 → z ≡ size n
    → record { a = n * 2 ^ (53 - z) % 2 ^ 64 / 2 ^ 22; down = 9277 - z } ≡ units_of n 0
some_units zero z h l e = absurd (h refl)
some_units (suc n) z h l e =
    let down : 9277 - z ≡ 9277 - (0 + size (suc n)) = omega arith in
    ap₂ (λ (x y : ℕ). record { a = x / 2 ^ 22; down = y }) (shifted (suc n) z l e) down

pub overflow_sub-result : goal.overflow_sub-result
overflow_sub-result c =
    omega (arith, c.from-size.ensures, count c.args.n c.if-n-eq0.false c.requires, size-le c.args.n 53 (let l = c.requires in omega arith))

pub overflow_cast-result : goal.overflow_cast-result
overflow_cast-result c =
    let n = c.args.n in
    let l : n < 2 ^ 53 = let k = c.requires in omega arith in
    let f = filled n (let k = c.if-n-eq0.false in omega arith) l in
    let s : c.from-size.result ≡ size n = omega (arith, c.from-size.ensures, count n c.if-n-eq0.false c.requires) in
    omega (arith, shifted n c.from-size.result c.requires s, f.1)

pub returns : goal.returns
returns c =
    let n = c.args.n in
    let s : c.from-size.result ≡ size n = omega (arith, c.from-size.ensures, count n c.if-n-eq0.false c.requires) in
    some_units n c.from-size.result c.if-n-eq0.false c.requires s
    ∙ sym (plain_split n (let l = c.requires in omega arith))
