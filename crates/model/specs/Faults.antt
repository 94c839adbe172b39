-- What overloads, one by one, and the order in which it is told: the lowest number first, then the lowest branch, then
-- a T before a ratio.
use Rattle.std.specs.Prelude.{Bool, true, false, cond, ◌&&◌, ◌||◌, List, [], ◌∷◌, ◌++◌, ℕ, suc, eqb, ltb, ℤ}
use Rattle.refusal.specs.declared.Refusal.{Refusal}
use Rattle.refusal.specs.declared.Refusal.TheVariants.{Overload, Injection}
use Rattle.refusal.specs.Order.{Verdict, no}
use Rattle.card.specs.declared.WorkedCard.{WorkedCard}
use Rattle.settle.specs.OfTerms.Rows.{Role, Row, rows_for}
use Rattle.settle.specs.OfRows.Outcome.{ratio_limit, some_above, over_ticks, ratios_in}
use Rattle.settle.specs.OfPolarity.Polarity.{seen_by}
use Rattle.settle.specs.OfTotals.Flow.{roles_at}

-- a T above its limit, or a ratio above its own
pub data Kind : Type 0 where
  ticks : Kind
  ratio : Kind

-- one thing that overloads: the transistor's issue number, the branch, and the kind
pub record Fault : Type 0 where
  pub issue : ℕ
  pub branch : ℕ
  pub kind : Kind

-- ---- the order

abbrev pub kind_before : Kind → Kind → Bool
kind_before ticks k = true
kind_before ratio ticks = false
kind_before ratio ratio = true

-- a is told before b, or is b
unfoldable pub before : Fault → Fault → Bool
before a b =
    ltb a.issue b.issue
    || (eqb a.issue b.issue
    && (ltb a.branch b.branch || (eqb a.branch b.branch && kind_before a.kind b.kind)))

-- the one of f and of a list that is told
unfoldable pub first : Fault → List Fault → Fault
first f [] = f
first f (g ∷ l) = first (cond (before f g) f g) l

-- ---- what is told

-- 15 for a T, 18 for a ratio
abbrev pub refusal_by : Kind → ℕ → ℕ → Refusal
refusal_by ticks issue branch = Overload issue branch
refusal_by ratio issue branch = Injection issue branch

abbrev pub refusal_for : Fault → Refusal
refusal_for f = refusal_by f.kind f.issue f.branch

-- of all that overloads the first is told; where nothing does, what comes after
abbrev pub refuse_first : {A : Type 0} → List Fault → Verdict A → Verdict A
refuse_first [] next = next
refuse_first (f ∷ l) next = no (refusal_for (first f l))

-- ---- all that overloads

abbrev pub fault_if : Bool → Fault → List Fault → List Fault
fault_if true f l = f ∷ l
fault_if false f l = l

-- in the rows of a transistor, numbered from k, whatever stands before
unfoldable pub faults_in : ℕ → WorkedCard → (Role → Role → ℤ) → ℕ → List Row → List Fault
faults_in issue c v k [] = []
faults_in issue c v k (r ∷ rows) =
    fault_if (over_ticks c v r r.divisor) (record { issue = issue; branch = k; kind = ticks })
    (fault_if (some_above ratio_limit (ratios_in c v r.divisor)) (record { issue = issue; branch = k; kind = ratio })
    (faults_in issue c v (suc k) rows))

-- in a transistor of this number on its nodes
unfoldable pub faults_of : ℕ → WorkedCard → List ℕ → List ℤ → List Fault
unfolding faults_in
faults_of issue c nodes volts = faults_in issue c (seen_by c (roles_at volts nodes)) 1 (rows_for c.exsub)

-- in any of a list
unfoldable pub faults_among : {A : Type 0} → (A → List Fault) → List A → List Fault
faults_among faults [] = []
faults_among faults (a ∷ l) = faults a ++ faults_among faults l
