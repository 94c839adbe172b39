-- The first transistor that overloads, by issue number, with the branch and kind by which it does.
use Rattle.std.specs.Prelude.{Option, Some, None, Result, Ok, Err, Bool, cond, ℕ, zero, suc, leb}
use Rattle.refusal.specs.declared.Refusal.{Refusal}
use Rattle.refusal.specs.declared.Refusal.TheVariants.{OutOfReach}
use Rattle.places.specs.OfRowsTypes.Over.{Over}
use Rattle.places.specs.OfRows.Outcome.{drawn_by}
use Rattle.settle.specs.declared.First.{First}

-- by what it overloads, if there is one, and its number; 0 where there is none
abbrev pub first_by : Option First → Option Over
first_by None = None
first_by (Some f) = Some f.over

abbrev pub first_issue : Option First → ℕ
first_issue None = 0
first_issue (Some f) = f.issue

-- of one that was found, if any was, and another that overloads, the one of the lower issue number
abbrev pub or_first : Option First → First → Option First
or_first None g = Some g
or_first (Some f) g = cond (leb f.issue g.issue) (Some f) (Some g)

-- of one that was found and another, the one of the lower issue number that overloads
abbrev pub earlier : Option First → ℕ → Option Over → Option First
earlier a issue None = a
earlier a issue (Some over) = or_first a (record { issue = issue; over = over })

-- the first among the places below k that are worked
unfoldable pub first_below : (ℕ → Bool) → (ℕ → ℕ) → (ℕ → Option Over) → ℕ → Option First
first_below worked issue over zero = None
first_below worked issue over (suc k) =
    cond (worked k) (earlier (first_below worked issue over k) (issue k) (over k)) (first_below worked issue over k)

-- 15 or 18 for the first that overloads, then 10 for a total that would leave 64 bits
abbrev pub judged : Option First → Bool → Result (Unit {0}) Refusal
judged (Some f) fits = Err (drawn_by f.issue (Some f.over))
judged None fits = cond fits (Ok tt) (Err OutOfReach)
