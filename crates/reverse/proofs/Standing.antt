-- A branch's two numbers as the code has them stand for its T's over its sum: they overload together, and else their
-- difference is the quotient.
use mathlib.Core.Path.{◌≡◌, refl, sym, ap, ◌∙◌}
use mathlib.Core.Bool.{Bool, true, false, cond, ◌||◌}
use Prim.Native.Nat.{ℕ, zero, suc, ◌-◌, ◌≤◌, ◌<◌}
use native.Mathlib.Omega.{arith}
use lib.Dec.{eqb, ltb, lit<}
use lib.IntN.{pos, negsuc, neg_ℤ, nat_abs, sub_ℕ}
use borrow.Author.Tests.{eqb-true, eqb-false, ne_eqb, le-ltb, ltb-true, ltb-false}
use Rattle.refusal.specs.Clash.{clash}
use Rattle.scaling.specs.OfQuotients.Quotient.{shifted_quotient, quotient_up, quotient_down}
use Rattle.whole.specs.laws.Biased.{sub_up, sub_down}
use Rattle.scaling.specs.Scaled.{part_places, tick_limit}
use Rattle.scaling.specs.inner.Shifts.{UpTo}
use Rattle.scaling.proofs.Scaling.{upto_held}
use Rattle.reverse.specs.Sum.{sum_limit, over_sum, sum_over}
use Rattle.reverse.specs.inner.Pairs.{over_pair, size_over, difference_over, pair_of, either_over, Stands}

-- more than a branch may have, where it overloads
too_much : {p m y : ℕ} → either_over p m || sum_over (sub_ℕ p m) y ≡ true → Stands p m y over_pair
too_much e = record { over = sym e; ticks = λ f. clash cc; plus_small = lit< tt; minus_small = lit< tt }

or_false : (t : Bool) → t || false ≡ t
or_false true = refl
or_false false = refl

same_size : (n : ℕ) → nat_abs (neg_ℤ (pos n)) ≡ n
same_size zero = refl
same_size (suc n) = refl

none_less : (n : ℕ) → sub_ℕ 0 n ≡ neg_ℤ (pos n)
none_less zero = sub_up 0 0 (omega arith)
none_less (suc n) = sub_down 0 (suc n) (omega arith) ∙ ap negsuc (omega arith)

less_none : (n : ℕ) → sub_ℕ n 0 ≡ pos n
less_none n = sub_up n 0 (omega arith) ∙ ap pos (omega arith)

-- T's within their limit over a sum within its own
module _ (p m y : ℕ) (a : p ≤ tick_limit) (b : m ≤ tick_limit) (there : 0 < y) (most : y ≤ sum_limit) where
  -- it overloads by its result alone
  by_result : {q : ℕ} → nat_abs (over_sum (sub_ℕ p m) y) ≡ q → either_over p m || sum_over (sub_ℕ p m) y ≡ ltb tick_limit q
  by_result e =
      rw (
        le-ltb tick_limit p a,
        le-ltb tick_limit m b,
        ne_eqb y 0 (λ z. omega arith),
        le-ltb sum_limit y most,
        e,
      )

  module _ (n : ℕ) where
    held : UpTo tick_limit (size_over n y) (shifted_quotient n part_places y)
    held = upto_held tick_limit (shifted_quotient n part_places y) (lit< tt)

    result_same : ltb tick_limit (shifted_quotient n part_places y) ≡ false → size_over n y ≡ shifted_quotient n part_places y
    result_same e = held.same (ltb-false tick_limit (size_over n y) (held.above ∙ e))

  down_stands : p < m → Stands p m y (record { plus = 0; minus = size_over (m - p) y })
  down_stands h =
      let q = quotient_down p m part_places y h in
      let size = ap nat_abs q ∙ same_size (shifted_quotient (m - p) part_places y) in
      record {
        over = or_false _ ∙ (held (m - p)).above ∙ sym (by_result size);
        ticks = λ e. none_less (size_over (m - p) y)
            ∙ ap (λ (k : ℕ). neg_ℤ (pos k)) (result_same (m - p) (sym (by_result size) ∙ e)) ∙ sym q;
        plus_small = lit< tt;
        minus_small = (held (m - p)).small;
      }

  up_stands : m ≤ p → Stands p m y (record { plus = size_over (p - m) y; minus = 0 })
  up_stands h =
      let q = quotient_up p m part_places y h in
      let size = ap nat_abs q in
      record {
        over = or_false _ ∙ (held (p - m)).above ∙ sym (by_result size);
        ticks = λ e. less_none (size_over (p - m) y)
            ∙ ap pos (result_same (p - m) (sym (by_result size) ∙ e)) ∙ sym q;
        plus_small = (held (p - m)).small;
        minus_small = lit< tt;
      }

  -- so whichever is larger
  difference_stands : Stands p m y (difference_over p m y)
  difference_stands = go (ltb p m) refl
    where
      go : (t : Bool) → ltb p m ≡ t →
          Stands p m y
          (cond t (record { plus = 0; minus = size_over (m - p) y }) (record { plus = size_over (p - m) y; minus = 0 }))
      go true e = down_stands (ltb-true p m e)
      go false e = up_stands (ltb-false p m e)

-- whatever stands above its limit is above it in the code too
module _ {p m y p' m' y' : ℕ} (a : UpTo tick_limit p' p) (b : UpTo tick_limit m' m) (s : UpTo sum_limit y' y) where
  over_plus : ltb tick_limit p' ≡ true → either_over p m || sum_over (sub_ℕ p m) y ≡ true
  over_plus e = rw (sym a.above ∙ e)

  over_minus : ltb tick_limit m' ≡ true → either_over p m || sum_over (sub_ℕ p m) y ≡ true
  over_minus e = go (ltb tick_limit p)
    where
      go : (t : Bool) → (t || (ltb tick_limit m || false)) || sum_over (sub_ℕ p m) y ≡ true
      go true = refl
      go false = rw (sym b.above ∙ e)

  by_sum : (t : Bool) → t ≡ true → (u : Bool) → u || t ≡ true
  by_sum t e true = refl
  by_sum t e false = e

  no_sum : eqb y' 0 ≡ true → either_over p m || sum_over (sub_ℕ p m) y ≡ true
  no_sum e =
      let z = eqb-true y' 0 e in
      let k = s.same (omega arith) in
      let none : y ≡ 0 = sym k ∙ z in by_sum _ (rw none) (either_over p m)

  over_sum_lem : ltb sum_limit y' ≡ true → either_over p m || sum_over (sub_ℕ p m) y ≡ true
  over_sum_lem e = by_sum _ (by_sum _ (rw (sym s.above ∙ e)) (eqb y 0)) (either_over p m)

  pub stands : Stands p m y (pair_of p' m' y')
  unfolding pair_of
  stands = first (ltb tick_limit p') refl (ltb tick_limit m') refl (eqb y' 0) refl (ltb sum_limit y') refl
    where
      first : (t : Bool) → ltb tick_limit p' ≡ t → (u : Bool) → ltb tick_limit m' ≡ u → (v : Bool) → eqb y' 0 ≡ v →
          (w : Bool) → ltb sum_limit y' ≡ w →
          Stands p m y (cond t over_pair (cond u over_pair (cond v over_pair (cond w over_pair (difference_over p' m' y')))))
      first true e u f v g w h = too_much (over_plus e)
      first false e true f v g w h = too_much (over_minus f)
      first false e false f true g w h = too_much (no_sum g)
      first false e false f false g true h = too_much (over_sum_lem h)
      first false e false f false g false h =
          let k = ltb-false tick_limit p' e in
          let l = ltb-false tick_limit m' f in
          let n = ltb-false sum_limit y' h in
          let z = eqb-false y' 0 g in
          let pe = a.same k in
          let me = b.same l in
          let ye = s.same n in
          rw (pe, me, ye)
          (difference_stands p m y (omega arith) (omega arith) (omega arith) (omega arith))
