-- What a loop over the rows knows once k are done: a number that none of theirs is above, and that none overloads.
use mathlib.Core.Path.{◌≡◌, refl, sym, ap, subst, ◌∙◌}
use mathlib.Core.Bool.{true, false}
use mathlib.Core.List.{List, [], ◌∷◌}
use mathlib.Core.Logic.{◌⊎◌, inl, inr}
use Prim.Native.Nat.{ℕ, suc, ◌+◌, ◌-◌, ◌≤◌, ◌<◌}
use native.Mathlib.Omega.{arith}
use lib.ListN.{get_or}
use Rattle.std.specs.Prelude.{Some, None}
use Rattle.whole.specs.laws.Biased.{below_or_not}
use Rattle.rows.specs.declared.Over.TheVariants.{Ticks, Injection}
use Rattle.rows.specs.OfTerms.Terms.{Terms}
use Rattle.rows.specs.OfTerms.Rows.{branches}
use Rattle.rows.specs.Outcome.{tick_limit, ratio_limit, some_above}
use Rattle.rows.specs.inner.FromTerms.{Most, row_over, over_up}

-- what is so below k, and at k, is so below k + 1
each_more : (P : ℕ → Type 0) {k : ℕ} → ((i : ℕ) → i < k → P i) → P k → (i : ℕ) → i < k + 1 → P i
each_more P {k} old new i h = go (below_or_not i k)
  where
    go : (i < k) ⊎ (k ≤ i) → P i
    go (inl q) = old i q
    go (inr q) = let e : k ≡ i = omega arith in subst P e new

-- ---- at least every number

pub record MostTo (a b : List ℕ) (k most : ℕ) : Type 0 where
  pub first : (i : ℕ) → i < k → get_or a i 0 ≤ most
  pub second : (i : ℕ) → i < k → get_or b i 0 ≤ most

module _ {a b : List ℕ} where
  pub most_none : MostTo a b 0 0
  most_none = record { first = λ i h. absurd (omega arith); second = λ i h. absurd (omega arith) }

  -- m is at least both numbers of row k, n at least that and those before it
  pub most_more : {k most m n : ℕ} → MostTo a b k most → get_or a k 0 ≤ m → get_or b k 0 ≤ m → most ≤ n → m ≤ n →
      MostTo a b (k + 1) n
  most_more {k} {most} {m} {n} t l r o u =
      record {
        first = each_more (λ (i : ℕ). get_or a i 0 ≤ n) (λ i q. let p = t.first i q in omega arith) (omega arith);
        second = each_more (λ (i : ℕ). get_or b i 0 ≤ n) (λ i q. let p = t.second i q in omega arith) (omega arith);
      }

  pub most_all : {k most : ℕ} → branches ≤ k → MostTo a b k most → Most a b most
  most_all h t = record { first = λ i q. t.first i (omega arith); second = λ i q. t.second i (omega arith) }

-- ---- no row overloads: the first of all that does is the first of those left

pub record Looked (x : Terms) (k : ℕ) : Type 0 where
  pub rest : over_up x branches 0 ≡ over_up x (branches - k) k

over_row : (x : Terms) (n k : ℕ) → over_up x (suc n) k ≡ row_over x k (over_up x n (suc k))
unfolding over_up
over_row x n k = refl

over_end : (x : Terms) (k : ℕ) → over_up x 0 k ≡ None
unfolding over_up
over_end x k = refl

module _ {x : Terms} where
  pub looked_none : Looked x 0
  looked_none = record { rest = refl }

  -- it is for row k + 1 to say
  looked_row : {k : ℕ} → Looked x k → k < branches →
      over_up x branches 0 ≡ row_over x k (over_up x (branches - (k + 1)) (k + 1))
  looked_row {k} s h =
      let e : branches - k ≡ suc (branches - (k + 1)) = omega arith in
      let f : suc k ≡ k + 1 = omega arith in
      s.rest ∙ ap (λ (n : ℕ). over_up x n k) e ∙ over_row x (branches - (k + 1)) k
      ∙ ap (λ (n : ℕ). row_over x k (over_up x (branches - (k + 1)) n)) f

  pub over_ticks_lem : {k : ℕ} → Looked x k → k < branches →
      some_above tick_limit (get_or x.plus k 0 ∷ get_or x.minus k 0 ∷ []) ≡ true →
      Some (Ticks (k + 1)) ≡ over_up x branches 0
  over_ticks_lem {k} s h a =
      let f : suc k ≡ k + 1 = omega arith in sym (looked_row s h ∙ rw a (ap (λ (n : ℕ). Some (Ticks n)) f))

  pub over_injection : {k : ℕ} → Looked x k → k < branches →
      some_above tick_limit (get_or x.plus k 0 ∷ get_or x.minus k 0 ∷ []) ≡ false →
      some_above ratio_limit (get_or x.left k 0 ∷ get_or x.right k 0 ∷ []) ≡ true →
      Some (Injection (k + 1)) ≡ over_up x branches 0
  over_injection {k} s h a b =
      let f : suc k ≡ k + 1 = omega arith in sym (looked_row s h ∙ rw (a, b) (ap (λ (n : ℕ). Some (Injection n)) f))

  pub looked_more : {k : ℕ} → Looked x k → k < branches →
      some_above tick_limit (get_or x.plus k 0 ∷ get_or x.minus k 0 ∷ []) ≡ false →
      some_above ratio_limit (get_or x.left k 0 ∷ get_or x.right k 0 ∷ []) ≡ false → Looked x (k + 1)
  looked_more {k} s h a b = record { rest = looked_row s h ∙ rw (a, b) refl }

  pub looked_all : {k : ℕ} → branches ≤ k → Looked x k → None ≡ over_up x branches 0
  looked_all {k} h s =
      let e : branches - k ≡ 0 = omega arith in
      sym (s.rest ∙ ap (λ (n : ℕ). over_up x n k) e ∙ over_end x k)
