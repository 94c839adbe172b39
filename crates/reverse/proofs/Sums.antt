-- Two exponentials added where their digits are raised by thirty places, and all shifted down, are the floor of their
-- exact sum.
use mathlib.Core.Path.{◌≡◌, sym, ap, ap₂, subst, ◌∙◌}
use Prim.Native.Nat.{ℕ, ◌+◌, ◌-◌, ◌*◌, ◌/◌, ◌^◌, ◌≤◌, ◌<◌}
use native.Mathlib.Nat.{mul_comm, add-mul, mul_assoc, mul_right_comm, mul-div_cancel}
use native.Mathlib.Nat.{mul-add-div, div-div-eq-div-mul, mul-div-mul_right, mul-le-mul, pow-le-pow_right}
use native.Mathlib.Nat.{le-div_iff_mul-le, div-lt_iff_lt-mul, div-le_self, le_trans, le_of_eq, le-add_right}
use native.Mathlib.Nat.{mul-le-mul_left}
use native.Mathlib.Omega.{arith}
use lib.Dec.{lit<}
use lib.Pow.{pow-add, pow_pos}
use lib.IntN.{ℤ, pos, nat_abs, sub_ℕ, ◌+ℤ◌}
use Rattle.whole.specs.laws.Biased.{sub_up, sub_eq, sub_add}
use Rattle.scaling.specs.OfOctaveTypes.Exponential.{Exponential}
use Rattle.scaling.specs.OfOctave.Table.{places}
use Rattle.scaling.specs.OfOctave.Exponential.{bias}
use Rattle.scaling.specs.inner.Shifts.{exp_at, UpTo, Sized}
use Rattle.scaling.proofs.Scaling.{upto_equal, upto_above}
use Rattle.reverse.specs.Sum.{lowest, in_lowest, sum_parts, sum_limit}

-- ---- an exponential in units of the lowest power

raised_back : (n k : ℕ) → nat_abs (sub_ℕ n k +ℤ sub_ℕ k 0) ≡ n
raised_back n k =
    ap nat_abs (sub_add n k k 0 ∙ sub_eq (n + k) (k + 0) n 0 (omega arith) ∙ sub_up n 0 (omega arith)) ∙ omega arith

as_sub : (k : ℕ) → pos k ≡ sub_ℕ k 0
as_sub k = ap pos (let e : k ≡ k - 0 = omega arith in e) ∙ sym (sub_up k 0 (omega arith))

in_lowest_lem : (g : Exponential) → in_lowest (exp_at g) ≡ g.m * 2 ^ g.n
unfolding exp_at
in_lowest_lem g =
    ap (λ (k : ℕ). g.m * 2 ^ k)
    (ap (λ (z : ℤ). nat_abs (sub_ℕ g.n (bias + places) +ℤ z)) (as_sub lowest) ∙ raised_back g.n lowest)

-- ---- the sum

turned : (h l a b r : ℕ) → (h * (a * b) + l * b) * r ≡ (a * (h * r) + l * r) * b
turned h l a b r =
    add-mul (h * (a * b)) (l * b) r
    ∙ ap₂ (λ (x y : ℕ). x + y)
    (ap (λ (x : ℕ). x * r) (sym (mul_assoc h a b)) ∙ mul_right_comm (h * a) b r
    ∙ ap (λ (x : ℕ). x * b) (ap (λ (x : ℕ). x * r) (mul_comm h a) ∙ mul_assoc a h r))
    (mul_right_comm l b r)
    ∙ sym (add-mul (a * (h * r)) (l * r) b)

-- over a, with the lower one cut first; over all, of the exact sum
module _ (h l a b c d r : ℕ) (there-a : 0 < a) (there-b : 0 < b) (there-r : 0 < r) (e : d * r ≡ b * a * c) where
  cut_first : (h * r + l * r / a) / c ≡ (h * (a * b) + l * b) / d
  cut_first =
      ap (λ (x : ℕ). x / c)
      (sym (mul-add-div there-a (h * r) (l * r))
      ∙ ap (λ (x : ℕ). x / a) (sym (mul-div_cancel (a * (h * r) + l * r) there-b)))
      ∙ ap (λ (x : ℕ). x / c)
      (div-div-eq-div-mul ((a * (h * r) + l * r) * b) b a)
      ∙ div-div-eq-div-mul ((a * (h * r) + l * r) * b) (b * a) c
      ∙ ap₂ (λ (x y : ℕ). x / y) (sym (turned h l a b r)) (sym e)
      ∙ mul-div-mul_right (h * (a * b) + l * b) d there-r

-- the powers: those of the two exponentials, and by how much all is shifted down
module _ (hm lm hn ln : ℕ) (order : ln ≤ hn) (top : hn ≤ 8215) where
  powers : 2 ^ 8202 * 2 ^ 30 ≡ 2 ^ ln * 2 ^ (hn - ln) * 2 ^ (8232 - hn)
  powers =
      sym (pow-add 2 8202 30)
      ∙ ap (λ (k : ℕ). 2 ^ k) (let e : 8202 + 30 ≡ ln + (hn - ln) + (8232 - hn) = omega arith in e)
      ∙ pow-add 2 (ln + (hn - ln)) (8232 - hn)
      ∙ ap (λ (x : ℕ). x * 2 ^ (8232 - hn)) (pow-add 2 ln (hn - ln))

  high_power : 2 ^ hn ≡ 2 ^ (hn - ln) * 2 ^ ln
  high_power = ap (λ (k : ℕ). 2 ^ k) (let e : hn ≡ hn - ln + ln = omega arith in e) ∙ pow-add 2 (hn - ln) ln

  sum_is : (hm * 2 ^ 30 + lm * 2 ^ 30 / 2 ^ (hn - ln)) / 2 ^ (8232 - hn) ≡ (hm * 2 ^ hn + lm * 2 ^ ln) / 2 ^ 8202
  sum_is =
      cut_first hm lm (2 ^ (hn - ln)) (2 ^ ln) (2 ^ (8232 - hn)) (2 ^ 8202) (2 ^ 30) (pow_pos (hn - ln))
      (pow_pos ln) (lit< tt) powers
      ∙ ap (λ (x : ℕ). (hm * x + lm * 2 ^ ln) / 2 ^ 8202) (sym high_power)

-- ---- the code's sum

module _ {g h : Exponential} (high : Sized g) (low : Sized h) (order : h.n ≤ g.n) where
  parts_are : sum_parts (exp_at g) (exp_at h) ≡ (g.m * 2 ^ g.n + h.m * 2 ^ h.n) / 2 ^ 8202
  parts_are = ap₂ (λ (x y : ℕ). (x + y) / 2 ^ 8202) (in_lowest_lem g) (in_lowest_lem h)

  -- raised, both stay within 64 bits
  pub sum_small : g.m * 2 ^ 30 + h.m * 2 ^ 30 / 2 ^ (g.n - h.n) ≤ 2 ^ 62
  sum_small =
      let a = high.digits.high in
      let b = low.digits.high in let c = div-le_self (h.m * 2 ^ 30) (2 ^ (g.n - h.n)) in omega arith

  small : (x k : ℕ) → x ≤ 2 ^ 62 → 2 ^ 17 ≤ k → x / k < 2 ^ 62
  small x k a b =
      let q = mul-le-mul_left (2 ^ 62) b in (div-lt_iff_lt-mul {k = k} {x = x} {y = 2 ^ 62} (omega arith)).1
      (omega arith)

  pub within_top : g.n ≤ 8215 → {r : ℕ} →
      r ≡ (g.m * 2 ^ 30 + h.m * 2 ^ 30 / 2 ^ (g.n - h.n)) / 2 ^ (8232 - g.n) →
      UpTo sum_limit r (sum_parts (exp_at g) (exp_at h))
  within_top k {r} e =
      upto_equal (e ∙ sum_is g.m h.m g.n h.n order k ∙ sym parts_are)
      (rw e (small (g.m * 2 ^ 30 + h.m * 2 ^ 30 / 2 ^ (g.n - h.n)) (2 ^ (8232 - g.n)) sum_small
      (pow-le-pow_right {n = 2} (lit< tt) {i = 17} {j = 8232 - g.n} (omega arith))))

  -- the higher one is too much by itself
  pub above_top : 8215 < g.n → UpTo sum_limit (2 ^ 43 + 1) (sum_parts (exp_at g) (exp_at h))
  above_top k = upto_above (omega arith) large (omega arith)
    where
      reach : 2 ^ 44 * 2 ^ 8202 ≤ g.m * 2 ^ g.n + h.m * 2 ^ h.n
      reach =
          le_trans (le_of_eq (sym (pow-add 2 44 8202) ∙ pow-add 2 30 8216))
          (le_trans
          (mul-le-mul high.digits.low (pow-le-pow_right {n = 2} (lit< tt) {i = 8216} {j = g.n} (omega arith)))
          (le-add_right (g.m * 2 ^ g.n) (h.m * 2 ^ h.n)))

      large : sum_limit < sum_parts (exp_at g) (exp_at h)
      large =
          subst (λ (y : ℕ). sum_limit < y) (sym parts_are)
          (le_trans (lit< tt)
          ((le-div_iff_mul-le {x = 2 ^ 44} {y = g.m * 2 ^ g.n + h.m * 2 ^ h.n} (pow_pos 8202)).1 reach))
