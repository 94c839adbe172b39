-- The currents of a record at the voltages of its roles, or the first refusal: 1, 6, 7, 8, 19, 9, 10, 13, 15 or 18.
use Rattle.std.specs.Prelude.{◌≡◌, Result, Ok, Err, List, ℕ, replicate, ℤ, pos}
use Rattle.refusal.specs.declared.Refusal.{Refusal}
use Rattle.refusal.specs.declared.Refusal.TheVariants.{OutOfRange}
use Rattle.refusal.specs.Told.{told}
use Rattle.refusal.specs.Order.{Verdict, no, yes, refuse_if, and_then, Answer, refused, given, tells}
use Rattle.volts.specs.Volts.{some_off}
use Rattle.card.specs.declared.WorkedCard.{WorkedCard}
use Rattle.card.specs.Judge.{judge_of}
use Rattle.terms.specs.Rows.{branches}
use Rattle.terms.specs.Looked.{looked_at}
use Rattle.rows.specs.Outcome.{Outcome, told_over, told_ticks, is_over, drawn_by}
use Rattle.polarity.specs.Polarity.{outcome_of}

-- what the first row that overloads draws, 15 or 18 with its branch, under the number 0, since there is no transistor
-- here and no transistor has it; else the ticks
abbrev pub at_outcome : Outcome → Verdict (List ℤ)
at_outcome x = refuse_if (is_over (told_over x)) (drawn_by 0 (told_over x)) (yes (told_ticks x))

-- of a worked card: 13 for a voltage outside its range, then 15 or 18
abbrev pub at_seen : WorkedCard → List ℤ → Verdict (List ℤ)
at_seen c volts = refuse_if (some_off volts) OutOfRange (at_outcome (outcome_of c volts))

-- at the voltages that the card looks at
abbrev pub at_volts : WorkedCard → List ℤ → Verdict (List ℤ)
at_volts c volts = at_seen c (looked_at c.wide volts)

-- of a record: what loading refuses first
unfoldable pub currents_of : List ℕ → List ℤ → Verdict (List ℤ)
currents_of bytes volts = and_then (judge_of bytes) (λ (c : WorkedCard). at_volts c volts)

-- what a reply tells
abbrev pub told_reply : Result (List ℤ) Refusal → Answer (List ℤ)
told_reply (Ok ticks) = given ticks
told_reply (Err f) = refused (told f)

-- the ticks that a caller has of it: of a refusal none, which count as zeros
abbrev pub ticks_in : Result (List ℤ) Refusal → List ℤ
ticks_in (Ok ticks) = ticks
ticks_in (Err f) = replicate branches (pos 0)

-- the ticks of a verdict: zeros beside a refusal
abbrev pub ticks_or : Verdict (List ℤ) → List ℤ
ticks_or (no f) = replicate branches (pos 0)
ticks_or (yes ticks) = ticks

-- what is promised of a reply
pub record Replies (bytes : List ℕ) (volts : List ℤ) (r : Result (List ℤ) Refusal) : Type 0 where
  pub answer : told_reply r ≡ tells (currents_of bytes volts)
  pub ticks : ticks_in r ≡ ticks_or (currents_of bytes volts)
