-- What overloads in one transistor and in many: the first row that does is the first told of all its faults.
use mathlib.Core.Path.{◌≡◌, refl, sym, ap, ◌∙◌, subst}
use mathlib.Core.Bool.{Bool, true, false}
use mathlib.Core.List.{List, [], ◌∷◌}
use mathlib.Core.Logic.{◌⊎◌, inl, inr}
use Prim.Native.Nat.{ℕ, suc, ◌≤◌}
use native.Mathlib.Omega.{arith}
use lib.Dec.{ltb}
use lib.IntN.{ℤ}
use borrow.Author.Tests.{ltb-true, ltb-false}
use Rattle.refusal.specs.Clash.{clash}
use Rattle.refusal.specs.Order.{Verdict, no}
use Rattle.card.specs.declared.WorkedCard.{WorkedCard}
use Rattle.terms.specs.Rows.{Role, Row, rows_for}
use Rattle.rows.specs.declared.Over.{Over}
use Rattle.rows.specs.declared.Over.TheVariants.{Ticks, Injection}
use Rattle.std.specs.Prelude.{Option, Some, None}
use Rattle.rows.specs.Outcome.{ratio_limit, some_above, over_ticks, ratios_in, over_at, first_over, is_over, drawn_by}
use Rattle.rows.specs.Outcome.{told_over, outcome_at, outcome_across}
use Rattle.polarity.specs.Polarity.{turned_outcome, seen_by, outcome_of}
use Rattle.totals.specs.Flow as flow
use Rattle.totals.specs.Flow.{roles_at}
use Rattle.model.specs.Faults.{Kind, ticks, ratio, Fault, before, refusal_for, refuse_first, fault_if, faults_in}
use Rattle.model.specs.Faults.{faults_of}
use Rattle.model.specs.Verdict.{refuse_over}
use Rattle.days.specs.Told.{Among, FirstTold}
use Rattle.days.proofs.FaultOrder.{Sooner, by_branch, by_kind, before_of, refuse_told}

-- ---- the rows of a transistor

abbrev fault : ℕ → ℕ → Kind → Fault
fault issue k kind = record { issue = issue; branch = k; kind = kind }

-- the fault that an overload is
abbrev pub fault_by : ℕ → Option Over → Fault
fault_by issue None = fault issue 0 ticks
fault_by issue (Some (Ticks k)) = fault issue k ticks
fault_by issue (Some (Injection k)) = fault issue k ratio

pub fault_issue : (issue : ℕ) (o : Option Over) → (fault_by issue o).issue ≡ issue
fault_issue issue None = refl
fault_issue issue (Some (Ticks k)) = refl
fault_issue issue (Some (Injection k)) = refl

pub drawn_is : (issue : ℕ) (o : Option Over) → refusal_for (fault_by issue o) ≡ drawn_by issue o
drawn_is issue None = refl
drawn_is issue (Some (Ticks k)) = refl
drawn_is issue (Some (Injection k)) = refl

-- a fault of this number from branch k on
record From (issue k : ℕ) (g : Fault) : Type 0 where
  own : g.issue ≡ issue
  on : k ≤ g.branch

ticks_first_lem : (issue k : ℕ) (g : Fault) → From issue k g → before (fault issue k ticks) g ≡ true
ticks_first_lem issue k g h = before_of (fault issue k ticks) g (go (ltb k g.branch) refl)
  where
    go : (t : Bool) → ltb k g.branch ≡ t → Sooner (fault issue k ticks) g
    go true e = by_branch (sym h.own) (ltb-true k g.branch e)
    go false e =
        let a = ltb-false k g.branch e in
        let b = h.on in by_kind (sym h.own) (omega arith) refl

module _ (issue : ℕ) (c : WorkedCard) (v : Role → Role → ℤ) where
  from_if : (t : Bool) (k : ℕ) (f : Fault) (l : List Fault) → From issue k f →
      ((g : Fault) → Among g l → From issue k g) →
      (g : Fault) → Among g (fault_if t f l) → From issue k g
  from_if true k f l a b g (inl e) = rw e a
  from_if true k f l a b g (inr m) = b g m
  from_if false k f l a b g m = b g m

  from_later : (k : ℕ) (g : Fault) → From issue (suc k) g → From issue k g
  from_later k g h = let a = h.on in record { own = h.own; on = omega arith }

  from : (k : ℕ) (rows : List Row) (g : Fault) → Among g (faults_in issue c v k rows) → From issue k g
  unfolding faults_in
  from k [] g m = absurd m
  from k (r ∷ rows) g m =
      from_if (over_ticks c v r r.divisor) k (fault issue k ticks) _ (record { own = refl; on = omega arith })
      (from_if (some_above ratio_limit (ratios_in c v r.divisor)) k (fault issue k ratio) _
      (record { own = refl; on = omega arith }) (λ x p. from_later k x (from (suc k) rows x p))) g m

  -- the first row that overloads is told
  rows_told : (k : ℕ) (rows : List Row) → is_over (first_over c v k rows) ≡ true →
      FirstTold (fault_by issue (first_over c v k rows)) (faults_in issue c v k rows)
  unfolding faults_in
  rows_told k [] e = clash cc
  rows_told k (r ∷ rows) e =
      go (over_ticks c v r r.divisor) (some_above ratio_limit (ratios_in c v r.divisor)) e
      (λ q. rows_told (suc k) rows q) (from (suc k) rows)
    where
      go : (t u : Bool) → is_over (over_at t u k (first_over c v (suc k) rows)) ≡ true →
          (is_over (first_over c v (suc k) rows) ≡ true →
          FirstTold (fault_by issue (first_over c v (suc k) rows)) (faults_in issue c v (suc k) rows)) →
          ((g : Fault) → Among g (faults_in issue c v (suc k) rows) → From issue (suc k) g) →
          FirstTold (fault_by issue (over_at t u k (first_over c v (suc k) rows)))
          (fault_if t (fault issue k ticks) (fault_if u (fault issue k ratio) (faults_in issue c v (suc k) rows)))
      go true u p next later = record { one = inl refl; none_before = each }
        where
          each : (g : Fault) → (g ≡ fault issue k ticks) ⊎ Among g (fault_if u (fault issue k ratio)
              (faults_in issue c v (suc k) rows)) → before (fault issue k ticks) g ≡ true
          each g (inl q) = ticks_first_lem issue k g (rw q (record { own = refl; on = omega arith }))
          each g (inr m) =
              ticks_first_lem issue k g
              (from_if u k (fault issue k ratio) _ (record { own = refl; on = omega arith })
              (λ x q. from_later k x (later x q)) g m)
      go false true p next later = record { one = inl refl; none_before = each }
        where
          each : (g : Fault) → (g ≡ fault issue k ratio) ⊎ Among g (faults_in issue c v (suc k) rows) →
              before (fault issue k ratio) g ≡ true
          each g (inl q) = rw q (before_of (fault issue k ratio) (fault issue k ratio) (by_kind refl refl refl))
          each g (inr m) =
              let h = later g m in
              let a = h.on in before_of (fault issue k ratio) g (by_branch (sym h.own) (omega arith))
      go false false p next later = next p

  rows_none : (k : ℕ) (rows : List Row) → is_over (first_over c v k rows) ≡ false → faults_in issue c v k rows ≡ []
  unfolding faults_in
  rows_none k [] e = refl
  rows_none k (r ∷ rows) e =
      go (over_ticks c v r r.divisor) (some_above ratio_limit (ratios_in c v r.divisor)) e
      (λ q. rows_none (suc k) rows q)
    where
      go : (t u : Bool) → is_over (over_at t u k (first_over c v (suc k) rows)) ≡ false →
          (is_over (first_over c v (suc k) rows) ≡ false → faults_in issue c v (suc k) rows ≡ []) →
          fault_if t (fault issue k ticks) (fault_if u (fault issue k ratio) (faults_in issue c v (suc k) rows)) ≡ []
      go true u p next = clash cc
      go false true p next = clash cc
      go false false p next = next p

-- ---- a transistor on its nodes

over_kept : (pnp : Bool) (o : Option Over) (l : List ℤ) → told_over (turned_outcome pnp (outcome_at o l)) ≡ o
over_kept pnp None l = refl
over_kept pnp (Some o) l = refl

module _ (issue : ℕ) (c : WorkedCard) (nodes : List ℕ) (volts : List ℤ) where
  first_row : flow.over_at c nodes volts ≡ first_over c (seen_by c (roles_at volts nodes)) 1 (rows_for c.exsub)
  unfolding flow.over_at outcome_across outcome_of
  first_row = over_kept c.pnp _ _

  pub faults_told : is_over (flow.over_at c nodes volts) ≡ true →
      FirstTold (fault_by issue (flow.over_at c nodes volts)) (faults_of issue c nodes volts)
  unfolding faults_of
  faults_told e =
      rw first_row (rows_told issue c (seen_by c (roles_at volts nodes)) 1 (rows_for c.exsub) (rw first_row at e))

  pub faults_none : is_over (flow.over_at c nodes volts) ≡ false → faults_of issue c nodes volts ≡ []
  unfolding faults_of
  faults_none e = rows_none issue c (seen_by c (roles_at volts nodes)) 1 (rows_for c.exsub) (rw first_row at e)

  pub faults_own : (g : Fault) → Among g (faults_of issue c nodes volts) → g.issue ≡ issue
  unfolding faults_of
  faults_own g m = (from issue c (seen_by c (roles_at volts nodes)) 1 (rows_for c.exsub) g m).own

  -- where there is a fault the transistor overloads
  pub faults_over : (g : Fault) → Among g (faults_of issue c nodes volts) → is_over (flow.over_at c nodes volts) ≡ true
  faults_over g m = go (is_over (flow.over_at c nodes volts)) refl
    where
      go : (t : Bool) → is_over (flow.over_at c nodes volts) ≡ t → t ≡ true
      go true e = refl
      go false e = absurd (subst (Among g) (faults_none e) m)

  -- told of the list, or of the first row that overloads
  pub refuse_over_lem : {A : Type 0} (v : Verdict A) →
      refuse_first (faults_of issue c nodes volts) v ≡ refuse_over issue (flow.over_at c nodes volts) v
  refuse_over_lem v = go (is_over (flow.over_at c nodes volts)) refl
    where
      go : (t : Bool) → is_over (flow.over_at c nodes volts) ≡ t →
          refuse_first (faults_of issue c nodes volts) v ≡ refuse_over issue (flow.over_at c nodes volts) v
      go true e =
          rw e
          (refuse_told (fault_by issue (flow.over_at c nodes volts)) _ v (faults_told e)
          ∙ ap no (drawn_is issue (flow.over_at c nodes volts)))
      go false e = rw (e, faults_none e)
