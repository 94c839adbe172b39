-- The divisor of a row: the size of its roots, and what it is where both floors are 0.
use mathlib.Core.Path.{◌≡◌, refl, sym, ap, ◌∙◌}
use mathlib.Core.Logic.{◌⊎◌, inl, inr}
use Prim.Native.Nat.{ℕ, suc, ◌+◌, ◌-◌, ◌*◌, ◌/◌, ◌^◌, ◌≤◌, ◌<◌}
use native.Mathlib.Nat.{mul-le-mul, zero-div, le_trans}
use native.Mathlib.Omega.{arith}
use lib.IntN.{pos, negsuc, nat_abs, sub_ℕ}
use Rattle.whole.specs.laws.Biased.{below_or_not, sub_up, sub_down, turned}
use Rattle.roots.specs.Root.{IsRoot, root_of, root_bits, root_is}
use Rattle.quotients.specs.Quotient.{quotient_of, quotient_up, quotient_down, quotient_small, held_size, held_size_small}
use Rattle.rows.specs.Ticks.{root_for}
use Rattle.rows.specs.Outcome.{tick_limit, ratio_limit}
use Rattle.rows.specs.inner.FromTerms.{divided_of}

pub record RootSize (r : ℕ) : Type 0 where
  pub least : 2 ^ 20 ≤ r
  pub most : r < 2 ^ 31

root_size : (x r : ℕ) → 2 ^ 40 ≤ x → x < 2 ^ 62 → IsRoot x r → RootSize r
root_size x r low high i = record { least = least (below_or_not r (2 ^ 20)); most = most (below_or_not r (2 ^ 31)) }
  where
    least : (r < 2 ^ 20) ⊎ (2 ^ 20 ≤ r) → 2 ^ 20 ≤ r
    least (inl h) =
        let k : r + 1 ≤ 2 ^ 20 = omega arith in
        let p = i.greatest in
        let m = mul-le-mul k k in
        absurd (omega arith)
    least (inr h) = h

    most : (r < 2 ^ 31) ⊎ (2 ^ 31 ≤ r) → r < 2 ^ 31
    most (inl h) = h
    most (inr h) = let p = i.within in let m = mul-le-mul h h in absurd (omega arith)

pub root_sized : (ratio : ℕ) → ratio ≤ ratio_limit → RootSize (root_for ratio)
unfolding root_for
root_sized ratio h =
    root_size ((2 ^ 20 + ratio) * 2 ^ 20) (root_for ratio) (omega arith) (omega arith)
    (root_is ((2 ^ 20 + ratio) * 2 ^ 20) (omega arith))

-- the root for the floor 0 is the unit
pub root_unit : root_for 0 ≡ 2 ^ 20
unfolding root_for root_of root_bits
root_unit = refl

-- over two units, 2^21, the quotient is the number itself
pub quotient_plain : (a b : ℕ) → quotient_of (sub_ℕ a b) 21 (2 ^ 20 + 2 ^ 20) ≡ sub_ℕ a b
quotient_plain a b = go (below_or_not a b)
  where
    go : (a < b) ⊎ (b ≤ a) → quotient_of (sub_ℕ a b) 21 (2 ^ 20 + 2 ^ 20) ≡ sub_ℕ a b
    go (inl h) =
        quotient_down a b 21 (2 ^ 20 + 2 ^ 20) h ∙ turned ((b - a) * 2097152 / 2097152) (omega arith)
        ∙ ap negsuc (omega arith)
        ∙ sym (sub_down a b h)
    go (inr h) = quotient_up a b 21 (2 ^ 20 + 2 ^ 20) h ∙ ap pos (omega arith) ∙ sym (sub_up a b h)

-- so a row with two floors of 0 is its difference
pub divided_plain : (plus minus : ℕ) → divided_of plus minus 0 0 ≡ sub_ℕ plus minus
unfolding divided_of
divided_plain plus minus = rw root_unit (quotient_plain plus minus)

pub divided_unit : (plus minus left right : ℕ) → left ≤ 0 → right ≤ 0 →
    sub_ℕ plus minus ≡ divided_of plus minus left right
divided_unit plus minus left right l r =
    let a : left ≡ 0 = omega arith in
    let b : right ≡ 0 = omega arith in
    rw (a, b) (sym (divided_plain plus minus))

-- a row that takes away what it adds has no ticks, whatever it is divided by
pub divided_equal : (plus minus left right : ℕ) → plus ≡ minus → pos 0 ≡ divided_of plus minus left right
unfolding divided_of
divided_equal plus minus left right e =
    let none : plus - minus ≡ 0 = omega arith in
    let d = root_for left + root_for right in
    let gone : (plus - minus) * 2 ^ 21 / d ≡ 0 = ap (λ (n : ℕ). n * 2 ^ 21 / d) none ∙ zero-div d in
    sym (quotient_up plus minus 21 d (omega arith) ∙ ap pos gone)

-- ---- T's and floors within their limits

-- a difference is no larger than its numbers
pub difference_small : (p m most : ℕ) → p ≤ most → m ≤ most → nat_abs (sub_ℕ p m) ≤ most
difference_small p m most h k = go (below_or_not p m)
  where
    go : (p < m) ⊎ (m ≤ p) → nat_abs (sub_ℕ p m) ≤ most
    go (inl q) = rw (sub_down p m q) (omega arith)
    go (inr q) = rw (sub_up p m q) (omega arith)

-- a divisor is the sum of two roots
pub record DivisorSize (d : ℕ) : Type 0 where
  pub least : 2 ^ 21 ≤ d
  pub most : d < 2 ^ 32

pub two_roots : (left right : ℕ) → left ≤ ratio_limit → right ≤ ratio_limit → DivisorSize (root_for left + root_for right)
two_roots left right l r =
    let a = root_sized left l in
    let b = root_sized right r in
    record { least = omega (arith, a.least, b.least); most = omega (arith, a.most, b.most) }

-- so a quotient stays below the first size that is too much
pub divided_held : (plus minus left right : ℕ) → plus ≤ tick_limit → minus ≤ tick_limit → left ≤ ratio_limit →
    right ≤ ratio_limit →
    held_size (suc tick_limit) (quotient_of (sub_ℕ plus minus) 21 (root_for left + root_for right)) ≡
    divided_of plus minus left right
unfolding divided_of
divided_held plus minus left right p m l r =
    let d = root_for left + root_for right in
    let less = quotient_small (sub_ℕ plus minus) 21 d (two_roots left right l r).least in
    let small = le_trans less (difference_small plus minus tick_limit p m) in
    held_size_small (suc tick_limit) (quotient_of (sub_ℕ plus minus) 21 d) (omega arith)
