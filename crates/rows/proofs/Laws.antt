-- What callers may count on: as many ticks as branches, and none above the limit in size.
use mathlib.Core.Path.{◌≡◌, refl}
use mathlib.Core.Bool.{Bool, true, false, cond, ◌&&◌}
use mathlib.Core.List.{List, [], ◌∷◌, map}
use Rattle.std.specs.Prelude.{Option, Some, None}
use Prim.Native.Nat.{ℕ, zero, suc, ◌+◌, ◌^◌, ◌≤◌, zero-le}
use native.Mathlib.Nat.{le_trans, le_refl}
use native.Mathlib.Omega.{arith}
use lib.ListN.{get_or, length, replicate, length-replicate}
use lib.Dec.{eqb, ltb}
use lib.IntN.{ℤ, pos, nat_abs, sub_ℕ}
use borrow.Author.Tests.{ltb-false}
use Rattle.terms.specs.OfReverse.Sum.{sum_limit, over_sum, sum_over}
use Rattle.quotients.specs.Quotient.{quotient_small}
use Rattle.terms.specs.OfCard.WorkedCard.{WorkedCard}
use Rattle.terms.specs.OfCard.inner.Worked.{Each}
use Rattle.terms.specs.Rows.{Role, Summand, unit, root, Divisor, undivided, sum_of, exps, Row, rows_for}
use Rattle.terms.specs.Rows.{branches}
use Rattle.terms.specs.Values.{value_of, tick_of, ratio_of, sum_at}
use Rattle.rows.specs.declared.Over.{Over}
use Rattle.rows.specs.Ticks.{summand_of, divided_by, row_ticks}
use Rattle.rows.specs.Outcome.{tick_limit, ratio_limit, some_above, ticks_in, ratios_in, over_ticks, first_over}
use Rattle.rows.specs.Outcome.{told_ticks, outcome_at, outcome_across}
use Rattle.rows.proofs.Tests.{neither, passes, both_within}
use Rattle.rows.proofs.Roots.{root_sized, difference_small}

-- ---- as many ticks as branches

many : (o : Option Over) (l : List ℤ) → length l ≡ branches → length (told_ticks (outcome_at o l)) ≡ branches
many None l e = e
many (Some o) l e = length-replicate branches (pos 0)

pub ticks_long : (c : WorkedCard) (v : Role → Role → ℤ) → length (told_ticks (outcome_across c v)) ≡ branches
unfolding outcome_across
ticks_long c v = many (first_over c v 1 (rows_for c.exsub)) (map (row_ticks c v) (rows_for c.exsub)) refl

-- ---- sizes

-- a number of either sign within a size
abbrev Sizes : ℕ → ℤ → Type 0
Sizes most x = nat_abs x ≤ most

each_at : (most : ℕ) (l : List ℤ) → Each (Sizes most) l → (k : ℕ) → nat_abs (get_or l k (pos 0)) ≤ most
each_at most [] h k = zero-le
each_at most (x ∷ l) h zero = h.0
each_at most (x ∷ l) h (suc k) = each_at most l h.1 k

zeros : (most n : ℕ) → Each (Sizes most) (replicate n (pos 0))
zeros most zero = tt
zeros most (suc n) = (zero-le, zeros most n)

module _ (c : WorkedCard) (v : Role → Role → ℤ) where
  -- a summand whose ratio is within its limit is 2^20 at least
  summand_least : (s : Summand) → ratio_of c v s ≤ ratio_limit → 2 ^ 20 ≤ summand_of c v s
  summand_least unit h = le_refl _
  summand_least (root x p q) h = (root_sized (ratio_of c v (root x p q)) h).least

  over_roots_small : (s t : Summand) (n : ℤ) → some_above ratio_limit (ratios_in c v (sum_of s t)) ≡ false →
      nat_abs (divided_by c v (sum_of s t) n) ≤ nat_abs n
  over_roots_small s t n e =
      let b = both_within ratio_limit (ratio_of c v s) (ratio_of c v t) e in
      let p = summand_least s b.first in
      let q = summand_least t b.second in
      quotient_small n 21 (summand_of c v s + summand_of c v t) (omega arith)

  -- over a sum of exponentials the result itself is judged
  over_sum_small : (t : Bool) (n : ℤ) (y : ℕ) → t && sum_over n y ≡ false →
      nat_abs (cond t (over_sum n y) (pos 0)) ≤ tick_limit
  over_sum_small true n y e =
      let a = neither (eqb y 0) _ e in
      let b = neither (ltb sum_limit y) _ a.1 in ltb-false tick_limit (nat_abs (over_sum n y)) b.1
  over_sum_small false n y e = zero-le

  row_small : (r : Row) (d : Divisor) → over_ticks c v r d ≡ false → some_above ratio_limit (ratios_in c v d) ≡ false →
      Sizes tick_limit (divided_by c v d (sub_ℕ (tick_of c v r.plus) (tick_of c v r.minus)))
  row_small r undivided e g =
      let b = both_within tick_limit (tick_of c v r.plus) (tick_of c v r.minus) e in
      difference_small _ _ tick_limit b.first b.second
  row_small r (sum_of s t) e g =
      let b = both_within tick_limit (tick_of c v r.plus) (tick_of c v r.minus) e in
      le_trans (over_roots_small s t (sub_ℕ (tick_of c v r.plus) (tick_of c v r.minus)) g)
      (difference_small _ _ tick_limit b.first b.second)
  row_small r (exps x p q) e g =
      over_sum_small (ltb 0 (value_of c x).digits) (sub_ℕ (tick_of c v r.plus) (tick_of c v r.minus)) (sum_at c v p q)
      (neither (some_above tick_limit (ticks_in c v r)) _ e).1

  -- rows of any kind
  rows_small : (rows : List Row) (k : ℕ) → first_over c v k rows ≡ None →
      Each (Sizes tick_limit) (map (row_ticks c v) rows)
  rows_small [] k e = tt
  rows_small (r ∷ rs) k e =
      let t = over_ticks c v r r.divisor in
      let d = some_above ratio_limit (ratios_in c v r.divisor) in
      let f = passes t d k (first_over c v (suc k) rs) e in
      (row_small r r.divisor f.ticks f.ratio, rows_small rs (suc k) f.later)

  outcome_small : (rows : List Row) (o : Option Over) → first_over c v 1 rows ≡ o →
      Each (Sizes tick_limit) (told_ticks (outcome_at o (map (row_ticks c v) rows)))
  outcome_small rows None e = rows_small rows 1 e
  outcome_small rows (Some o) e = zeros tick_limit branches

-- no current is above the limit in size, whatever the card and the voltages
pub ticks_small : (c : WorkedCard) (v : Role → Role → ℤ) (k : ℕ) →
    nat_abs (get_or (told_ticks (outcome_across c v)) k (pos 0)) ≤ tick_limit
unfolding outcome_across
ticks_small c v k =
    let rows = rows_for c.exsub in
    each_at tick_limit (told_ticks (outcome_across c v)) (outcome_small c v rows (first_over c v 1 rows) refl) k
