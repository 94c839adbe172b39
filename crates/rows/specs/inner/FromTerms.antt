-- The code's way from the rows' terms to an outcome.
use Rattle.std.specs.Prelude.{Option, None, List, [], ◌∷◌, ℕ, zero, suc, ◌+◌, ◌≤◌, ◌<◌, get_or, ℤ}
use Rattle.std.proofs.Math.IntN.{sub_ℕ}
use Rattle.quotients.specs.Quotient.{quotient_of}
use Rattle.terms.specs.declared.Terms.{Terms}
use Rattle.terms.specs.Rows.{branches}
use Rattle.terms.specs.OfScaling.Scaled.{tick_limit, ratio_limit}
use Rattle.rows.specs.declared.Over.{Over}
use Rattle.rows.specs.Ticks.{root_for, quotient_shift}
use Rattle.rows.specs.Outcome.{some_above, over_at, Outcome, outcome_at}

-- every number of two lists, one for each row in either, is at most this
pub record Most (a b : List ℕ) (most : ℕ) : Type 0 where
  pub first : (k : ℕ) → k < branches → get_or a k 0 ≤ most
  pub second : (k : ℕ) → k < branches → get_or b k 0 ≤ most

-- whether row k + 1 overloads, and if not what comes after it
abbrev pub row_over : Terms → ℕ → Option Over → Option Over
row_over x k next =
    over_at (some_above tick_limit (get_or x.plus k 0 ∷ get_or x.minus k 0 ∷ []))
    (some_above ratio_limit (get_or x.left k 0 ∷ get_or x.right k 0 ∷ []))
    (suc k)
    next

-- the first of n rows from place k on that overloads
unfoldable pub over_up : Terms → ℕ → ℕ → Option Over
over_up x zero k = None
over_up x (suc n) k = row_over x k (over_up x n (suc k))

-- Q over the roots for two floors
unfoldable pub divided_of : ℕ → ℕ → ℕ → ℕ → ℤ
divided_of plus minus left right = quotient_of (sub_ℕ plus minus) quotient_shift (root_for left + root_for right)

abbrev pub ticks_at : Terms → ℕ → ℤ
ticks_at x k = divided_of (get_or x.plus k 0) (get_or x.minus k 0) (get_or x.left k 0) (get_or x.right k 0)

-- f k, f (k + 1), .., n of them
unfoldable pub list_up : {A : Type 0} → (ℕ → A) → ℕ → ℕ → List A
list_up f zero k = []
list_up f (suc n) k = f k ∷ list_up f n (suc k)

abbrev pub all_ticks : Terms → List ℤ
all_ticks x = list_up (ticks_at x) branches 0

-- asked where ticks are worked: no row overloads
pub record NotOver (x : Terms) (k : ℕ) : Type 0 where
  pub plus : get_or x.plus k 0 ≤ tick_limit
  pub minus : get_or x.minus k 0 ≤ tick_limit
  pub left : get_or x.left k 0 ≤ ratio_limit
  pub right : get_or x.right k 0 ≤ ratio_limit

pub record Fine (x : Terms) : Type 0 where
  pub at : (k : ℕ) → k < branches → NotOver x k

-- the outcome of terms
abbrev pub outcome_from : Terms → Outcome
outcome_from x = outcome_at (over_up x branches 0) (all_ticks x)
