-- The currents of an NPN transistor, row by row, or the first row that overloads.
use Rattle.std.specs.Prelude.{Bool, true, false, ◌||◌, Option, Some, None, Result, Ok, Err}
use Rattle.std.specs.Prelude.{List, [], ◌∷◌, map, ℕ, suc, ltb, replicate, ℤ, pos}
use Rattle.std.proofs.Math.IntN.{sub_ℕ}
use Rattle.refusal.specs.declared.Refusal.{Refusal}
use Rattle.refusal.specs.declared.Refusal.TheVariants as refusal
use Rattle.terms.specs.OfCard.WorkedCard.{WorkedCard}
use Rattle.rows.specs.declared.Over.{Over}
use Rattle.rows.specs.declared.Over.TheVariants.{Ticks, Injection}
use Rattle.terms.specs.Rows.{Role, Divisor, undivided, sum_of, exps, Row, rows_for, branches}
use Rattle.terms.specs.Values.{tick_of, ratio_of, exps_over}
pub use Rattle.terms.specs.OfScaling.Scaled.{tick_limit, ratio_limit}
use Rattle.rows.specs.Ticks.{row_ticks}

-- some number of the list is above the limit
abbrev pub some_above : ℕ → List ℕ → Bool
some_above limit [] = false
some_above limit (x ∷ xs) = ltb limit x || some_above limit xs

-- the T's that a row names, and its ratios' floors
abbrev pub ticks_in : WorkedCard → (Role → Role → ℤ) → Row → List ℕ
ticks_in c v r = tick_of c v r.plus ∷ tick_of c v r.minus ∷ []

abbrev pub ratios_in : WorkedCard → (Role → Role → ℤ) → Divisor → List ℕ
ratios_in c v undivided = []
ratios_in c v (sum_of s t) = ratio_of c v s ∷ ratio_of c v t ∷ []
ratios_in c v (exps x p q) = []

-- a T is above its limit, or for a row over a sum of exponentials that sum is none or too large, or what comes of it is
abbrev pub over_ticks : WorkedCard → (Role → Role → ℤ) → Row → Divisor → Bool
over_ticks c v r undivided = some_above tick_limit (ticks_in c v r)
over_ticks c v r (sum_of s t) = some_above tick_limit (ticks_in c v r)
over_ticks c v r (exps x p q) =
    some_above tick_limit (ticks_in c v r)
    || exps_over c v x p q (sub_ℕ (tick_of c v r.plus) (tick_of c v r.minus))

-- whether row k overloads: a T goes before a ratio; and if neither, what comes after it
abbrev pub injection_at : Bool → ℕ → Option Over → Option Over
injection_at true k next = Some (Injection k)
injection_at false k next = next

abbrev pub over_at : Bool → Bool → ℕ → Option Over → Option Over
over_at true j k next = Some (Ticks k)
over_at false j k next = injection_at j k next

-- the first of the rows, numbered from k, that overloads
abbrev pub first_over : WorkedCard → (Role → Role → ℤ) → ℕ → List Row → Option Over
first_over c v k [] = None
first_over c v k (r ∷ rs) =
    over_at (over_ticks c v r r.divisor) (some_above ratio_limit (ratios_in c v r.divisor)) k
    (first_over c v (suc k) rs)

-- whether a row overloads, whichever and however
abbrev pub is_over : Option Over → Bool
is_over None = false
is_over (Some o) = true

-- the refusal that it draws for the transistor of a number: 15 for a T, 18 for a ratio, with the row's branch; nothing
-- asks for that of a transistor within its limits, which has no such branch
abbrev pub drawn_by : ℕ → Option Over → Refusal
drawn_by issue None = refusal.Overload issue 0
drawn_by issue (Some (Ticks k)) = refusal.Overload issue k
drawn_by issue (Some (Injection k)) = refusal.Injection issue k

-- the ticks of each row, or the first row that overloads
abbrev pub Outcome : Type 0
Outcome = Result (List ℤ) Over

-- which row of an outcome overloads, if any does
abbrev pub told_over : Outcome → Option Over
told_over (Ok ticks) = None
told_over (Err o) = Some o

-- what an outcome lets each branch count for: zeros where a row overloads
abbrev pub told_ticks : Outcome → List ℤ
told_ticks (Ok ticks) = ticks
told_ticks (Err o) = replicate branches (pos 0)

-- nothing counts where a row overloads
abbrev pub outcome_at : Option Over → List ℤ → Outcome
outcome_at None ticks = Ok ticks
outcome_at (Some o) ticks = Err o

-- the outcome for a worked card at the voltages of its junctions
unfoldable pub outcome_across : WorkedCard → (Role → Role → ℤ) → Outcome
outcome_across c v = outcome_at (first_over c v 1 (rows_for c.exsub)) (map (row_ticks c v) (rows_for c.exsub))
