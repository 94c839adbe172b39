-- From the code's terms to the outcome, over rows of any kind: the same row overloads first, and where none does
-- the ticks are the rows' own.
use mathlib.Core.Path.{◌≡◌, refl, ap₂, ◌∙◌}
use mathlib.Core.Bool.{Bool, false, ◌||◌}
use mathlib.Core.List.{List, [], ◌∷◌, map}
use Prim.Native.Nat.{ℕ, zero, suc, ◌+◌, ◌≤◌, ◌<◌}
use mathlib.Core.Logic.{◌⊎◌, inl, inr}
use native.Mathlib.Omega.{arith}
use lib.ListN.{get_or, length}
use lib.IntN.{ℤ, sub_ℕ}
use Rattle.std.specs.Prelude.{Option, Some, None}
use Rattle.refusal.specs.Unique.{unique_by_equation}
use Rattle.whole.specs.laws.Biased.{below_or_not}
use Rattle.quotients.specs.Quotient.{quotient_of}
use Rattle.rows.specs.OfCard.WorkedCard.{WorkedCard}
use Rattle.rows.specs.declared.Over.{Over}
use Rattle.rows.specs.OfTerms.Terms.{Terms}
use Rattle.rows.specs.OfTerms.Rows.{Role, Summand, unit, root, Divisor, undivided, sum_of, exps, Row, rows_for, branches}
use Rattle.rows.specs.OfTerms.Values.{ratio_of}
use Rattle.rows.specs.OfScaling.inner.Shifts.{UpTo}
use Rattle.rows.specs.OfTerms.inner.Terms.{left_of, right_of, ticks_of, Counted, RowTerms, RowsAt, none, more, TermsOf}
use Rattle.rows.specs.Ticks.{root_for, summand_of, divided_by, row_ticks}
use Rattle.rows.specs.Outcome.{tick_limit, ratio_limit, some_above, ratios_in, over_ticks, first_over}
use Rattle.rows.specs.Outcome.{outcome_at}
use Rattle.rows.specs.inner.FromTerms.{Most, over_up, divided_of, ticks_at, list_up, NotOver, Fine}
use Rattle.rows.specs.inner.FromTerms.{outcome_from}
use Rattle.rows.proofs.Tests.{Passes, passes, BothWithin, both_within, none_above}
use Rattle.rows.proofs.Roots.{root_unit, divided_plain}

-- ---- tests come out the same

same_test : {limit x y s t : ℕ} → UpTo limit x s → UpTo limit y t
    → some_above limit (x ∷ y ∷ []) ≡ some_above limit (s ∷ t ∷ [])
same_test a b = ap₂ (λ (m n : Bool). m || (n || false)) a.above b.above

module _ (c : WorkedCard) (v : Role → Role → ℤ) where
  same_ratios : (d : Divisor) {l g : ℕ} → UpTo ratio_limit l (left_of c v d) → UpTo ratio_limit g (right_of c v d) →
      some_above ratio_limit (l ∷ g ∷ []) ≡ some_above ratio_limit (ratios_in c v d)
  same_ratios undivided a b = same_test a b
  same_ratios (sum_of s t) a b = same_test a b
  same_ratios (exps x p q) a b = same_test a b

  module _ (r : Row) (p m : ℕ) where
    counted_over : (d : Divisor) → Counted c v r d p m → some_above tick_limit (p ∷ m ∷ []) ≡ over_ticks c v r d
    counted_over undivided t = same_test t.0 t.1
    counted_over (sum_of s u) t = same_test t.0 t.1
    counted_over (exps x a b) t = t.over

  pub over_is : {x : Terms} {k : ℕ} {rows : List Row} → RowsAt c v x k rows
      → over_up x (length rows) k ≡ first_over c v (suc k) rows
  unfolding over_up
  over_is none = refl
  over_is (more {k = k} {r = r} t rest) =
      rw (
        counted_over r _ _ r.divisor t.counted,
        same_ratios r.divisor t.left t.right,
        over_is rest,
      )

  -- ---- where no row overloads

  summand_root : (s : Summand) → root_for (ratio_of c v s) ≡ summand_of c v s
  summand_root unit = root_unit
  summand_root (root x p q) = refl

  over_roots : (s t : Summand) (p m : ℕ) →
      divided_of p m (ratio_of c v s) (ratio_of c v t) ≡ divided_by c v (sum_of s t) (sub_ℕ p m)
  unfolding divided_of
  over_roots s t p m = ap₂ (λ (a b : ℕ). quotient_of (sub_ℕ p m) 21 (a + b)) (summand_root s) (summand_root t)

  divided_is : (r : Row) (d : Divisor) {p m l g : ℕ} → Counted c v r d p m → UpTo ratio_limit l (left_of c v d) →
      UpTo ratio_limit g (right_of c v d) → BothWithin tick_limit p m → BothWithin ratio_limit l g →
      divided_of p m l g ≡ divided_by c v d (ticks_of c v r)
  divided_is r undivided {p} {m} t e f a b =
      rw (t.0.same a.first, t.1.same a.second, e.same b.first, f.same b.second) (divided_plain _ _)
  divided_is r (sum_of s u) {p} {m} t e f a b =
      rw (t.0.same a.first, t.1.same a.second, e.same b.first, f.same b.second) (over_roots s u _ _)
  divided_is r (exps x i j) {p} {m} t e f a b =
      rw (e.same b.first, f.same b.second)
      (divided_plain p m ∙ t.ticks (none_above tick_limit p m a.first a.second))

  row_is : {r : Row} {p m l g : ℕ} → RowTerms c v r p m l g → BothWithin tick_limit p m → BothWithin ratio_limit l g →
      divided_of p m l g ≡ row_ticks c v r
  row_is {r} t a b = divided_is r r.divisor t.counted t.left t.right a b

  pub ticks_are : {x : Terms} {k : ℕ} {rows : List Row} → RowsAt c v x k rows → over_up x (length rows) k ≡ None →
      list_up (ticks_at x) (length rows) k ≡ map (row_ticks c v) rows
  unfolding over_up list_up
  ticks_are none e = refl
  ticks_are {x} (more {k = k} {r = r} {rs = rs} t rest) e =
      let f = passes _ _ (suc k) (over_up x (length rs) (suc k)) e in
      let here = row_is t (both_within _ _ _ f.ticks) (both_within _ _ _ f.ratio) in
      let later = ticks_are rest f.later in
      λ i. here i ∷ later i

  pub outcome_is : {x : Terms} → TermsOf c v x
      → outcome_from x ≡ outcome_at (first_over c v 1 (rows_for c.exsub)) (map (row_ticks c v) (rows_for c.exsub))
  unfolding list_up
  outcome_is {x} t = go (over_up x branches 0) refl (over_is t.rows)
    where
      go : (o : Option Over) → over_up x branches 0 ≡ o → over_up x branches 0 ≡ first_over c v 1 (rows_for c.exsub) →
          outcome_from x ≡ outcome_at (first_over c v 1 (rows_for c.exsub)) (map (row_ticks c v) (rows_for c.exsub))
      go None e f = rw (← f, e, ticks_are t.rows e)
      go (Some o) e f = rw (← f, e)

  -- whatever terms are permitted, they have one outcome
  pub unique_outcome : {x y : Terms} → TermsOf c v x → TermsOf c v y → outcome_from x ≡ outcome_from y
  unique_outcome t u = unique_by_equation (outcome_is t) (outcome_is u)

-- ---- terms that are within, and rows of which none overloads

module _ (x : Terms) where
  passes_row : (n k : ℕ) → over_up x (suc n) k ≡ None →
      Passes (some_above tick_limit (get_or x.plus k 0 ∷ get_or x.minus k 0 ∷ [])) (some_above ratio_limit
      (get_or x.left k 0 ∷ get_or x.right k 0 ∷ [])) (over_up x n (suc k))
  unfolding over_up
  passes_row n k e = passes (some_above tick_limit (get_or x.plus k 0 ∷ get_or x.minus k 0 ∷ [])) (some_above ratio_limit
      (get_or x.left k 0 ∷ get_or x.right k 0 ∷ [])) (suc k) (over_up x n (suc k)) e

  pub not_over : (n k : ℕ) → over_up x n k ≡ None → (i : ℕ) → k ≤ i → i < k + n → NotOver x i
  not_over zero k e i a b = absurd (omega arith)
  not_over (suc n) k e i a b =
      go (below_or_not k i) (λ h. not_over n (suc k) (passes_row n k e).later i h (omega arith))
    where
      here : NotOver x k
      here =
          let f = passes_row n k e in
          let p = both_within _ _ _ f.ticks in
          let q = both_within _ _ _ f.ratio in
          record { plus = p.first; minus = p.second; left = q.first; right = q.second }

      go : (k < i) ⊎ (i ≤ k) → (k < i → NotOver x i) → NotOver x i
      go (inl h) later = later h
      go (inr h) later = let s : k ≡ i = omega arith in rw s at here

  pub none_over : (n k : ℕ) → ((i : ℕ) → k ≤ i → i < k + n → NotOver x i) → over_up x n k ≡ None
  unfolding over_up
  none_over zero k h = refl
  none_over (suc n) k h =
      let w = h k (omega arith) (omega arith) in
      rw (none_above _ _ _ w.plus w.minus, none_above _ _ _ w.left w.right)
      (none_over n (suc k) (λ i a b. h i (omega arith) (omega arith)))

  pub fine : over_up x branches 0 ≡ None → Fine x
  fine e = record { at = λ k h. not_over branches 0 e k (omega arith) (omega arith) }

  -- numbers that no T, and none that no floor, is above
  pub low_within : {ticks parts : ℕ} → Most x.plus x.minus ticks → ticks ≤ tick_limit →
      Most x.left x.right parts → parts ≤ ratio_limit → over_up x branches 0 ≡ None
  low_within t a p b = none_over branches 0 (λ i l q. at i (omega arith))
    where
      at : (i : ℕ) → i < branches → NotOver x i
      at i q =
          let t1 = t.first i q in
          let t2 = t.second i q in
          let p1 = p.first i q in
          let p2 = p.second i q in
          record { plus = omega arith; minus = omega arith; left = omega arith; right = omega arith }
