-- One input has one result: whatever two boards, answers and slices a method's promise allows are the same.
use Rattle.std.specs.Prelude.{◌≡◌, List, ℕ, length, ℤ}
use Rattle.bytes_le.specs.Buffer.{over}
use Rattle.refusal.specs.Unique.{unique_by_equation}
use Rattle.model.specs.Board as model
use Rattle.model.specs.Model.{loaded_of, withdrawn_of, looked_of, opened_of, listed_of, summed_of}
use Rattle.reading.specs.OfLending.Rest.{Rest, State, bare}
use Rattle.reading.specs.OfLending.Lending.{Lent, fresh_lent, placed_lent, moved_lent, lifted_lent, showed_lent}
use Rattle.board.specs.declared.Answered.{Answered}
use Rattle.board.specs.Promise.{given_as, handed_as, Reached}

-- what a method promises of its result, both clauses: the answer and board of its definition, and that calls leave
-- that board
abbrev pub Allows : model.Answered → Answered → Type 0
Allows e r = (r ≡ given_as e) × Reached r.board

abbrev pub AllowsLent : Lent → Answered → Type 0
AllowsLent l r = (r ≡ handed_as l) × Reached r.board

-- where it writes the totals, and where it writes both slices
abbrev pub AllowsTotals : Lent → Answered → List ℤ → Type 0
AllowsTotals l r totals = (r ≡ handed_as l) × (Reached r.board × (totals ≡ l.state.totals))

abbrev pub AllowsBoth : Lent → Answered → List ℤ → List ℤ → Type 0
AllowsBoth l r volts totals =
    (r ≡ handed_as l) × (Reached r.board × ((volts ≡ l.state.volts) × (totals ≡ l.state.totals)))

-- and of a lent buffer that held old: the list of its definition at its start, and beyond it what was there
abbrev pub AllowsList : model.Answered → List ℕ → Answered → List ℕ → Type 0
AllowsList e old r new = (r ≡ given_as e) × (Reached r.board × (new ≡ over e.list old))

-- ---- the calls that take slices

totals_same : (l : Lent) {r s : Answered} {t u : List ℤ} → AllowsTotals l r t → AllowsTotals l s u → (r ≡ s) × (t ≡ u)
totals_same l p q = (unique_by_equation p.0 q.0, unique_by_equation p.1.1 q.1.1)

both_same : (l : Lent) {r s : Answered} {v w t u : List ℤ} → AllowsBoth l r v t → AllowsBoth l s w u →
    (r ≡ s) × ((v ≡ w) × (t ≡ u))
both_same l p q = (
  unique_by_equation p.0 q.0,
  (unique_by_equation p.1.1.0 q.1.1.0, unique_by_equation p.1.1.1 q.1.1.1),
)

pub unique_fresh : (volts totals : List ℤ) {r s : Answered} {v w t u : List ℤ} →
    AllowsBoth (fresh_lent volts totals) r v t → AllowsBoth (fresh_lent volts totals) s w u →
    (r ≡ s) × ((v ≡ w) × (t ≡ u))
unique_fresh volts totals p q = both_same (fresh_lent volts totals) p q

module _ (b : State) {r s : Answered} where
  pub unique_place : (card : ℤ) (nodes : List ℤ) {t u : List ℤ} → AllowsTotals (placed_lent b card nodes) r t →
      AllowsTotals (placed_lent b card nodes) s u → (r ≡ s) × (t ≡ u)
  unique_place card nodes p q = totals_same (placed_lent b card nodes) p q

  pub unique_move : (pairs : List ℤ) {v w t u : List ℤ} → AllowsBoth (moved_lent b pairs) r v t →
      AllowsBoth (moved_lent b pairs) s w u → (r ≡ s) × ((v ≡ w) × (t ≡ u))
  unique_move pairs p q = both_same (moved_lent b pairs) p q

  pub unique_lift : (transistor : ℤ) {t u : List ℤ} → AllowsTotals (lifted_lent b transistor) r t →
      AllowsTotals (lifted_lent b transistor) s u → (r ≡ s) × (t ≡ u)
  unique_lift transistor p q = totals_same (lifted_lent b transistor) p q

  pub unique_node : (node : ℤ) → AllowsLent (showed_lent b node) r → AllowsLent (showed_lent b node) s → r ≡ s
  unique_node node p q = unique_by_equation p.0 q.0

-- ---- and those that take none

module _ (b : Rest) {r s : Answered} where
  pub unique_load : (name bytes : List ℕ) → Allows (loaded_of (bare b) name bytes) r →
      Allows (loaded_of (bare b) name bytes) s → r ≡ s
  unique_load name bytes p q = unique_by_equation p.0 q.0

  pub unique_withdraw : (card : ℤ) → Allows (withdrawn_of (bare b) card) r → Allows (withdrawn_of (bare b) card) s → r ≡ s
  unique_withdraw card p q = unique_by_equation p.0 q.0

  pub unique_look : (name : List ℕ) → Allows (looked_of (bare b) name) r → Allows (looked_of (bare b) name) s → r ≡ s
  unique_look name p q = unique_by_equation p.0 q.0

  pub unique_currents : (transistor : ℤ) → Allows (opened_of (bare b) transistor) r →
      Allows (opened_of (bare b) transistor) s → r ≡ s
  unique_currents transistor p q = unique_by_equation p.0 q.0

  pub unique_sum : (node : ℤ) → Allows (summed_of (bare b) node) r → Allows (summed_of (bare b) node) s → r ≡ s
  unique_sum node p q = unique_by_equation p.0 q.0

  -- and what stands in the buffer after it, whatever stood there before
  pub unique_list : (node : ℤ) (old : List ℕ) {l m : List ℕ} →
      AllowsList (listed_of (bare b) node (length old)) old r l →
      AllowsList (listed_of (bare b) node (length old)) old s m → (r ≡ s) × (l ≡ m)
  unique_list node old p q = (unique_by_equation p.0 q.0, unique_by_equation p.1.1 q.1.1)
