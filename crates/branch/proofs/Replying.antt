-- From an outcome to its verdict, and from what loading says of a record to what is promised of a reply.
use Rattle.std.proofs.Common.{◌≡◌, ap, List, ℕ, Some, Result, Ok, Err}
use Rattle.std.specs.Prelude.{ℤ}
use Rattle.refusal.specs.declared.Refusal.{Refusal}
use Rattle.refusal.specs.Order.{no, yes, verdict, tells}
use Rattle.card.specs.declared.WorkedCard.{WorkedCard}
use Rattle.card.specs.Judge.{judge_of, told_judged}
use Rattle.card.specs.inner.Worked.{IsWorked}
use Rattle.card_laws.specs.laws.Unique.{judged_card, judged_refused}
use Rattle.card_laws.proofs.WorkedCards.{judged_is_worked}
use Rattle.rows.specs.declared.Over.{Over}
use Rattle.rows.specs.Outcome.{Outcome, drawn_by}
use Rattle.branch.specs.Currents.{at_outcome, at_volts, currents_of, ticks_or, Replies}

-- ---- from an outcome

module _ {x y : Outcome} (e : x ≡ y) where
  pub at_within : {ticks : List ℤ} → x ≡ Ok ticks → yes ticks ≡ at_outcome y
  at_within w = rw (← e, w)

  pub at_over : {o : Over} → x ≡ Err o → no (drawn_by 0 (Some o)) ≡ at_outcome y
  at_over w = rw (← e, w)

-- ---- from a record

replies : {bytes : List ℕ} {volts : List ℤ} (r : Result (List ℤ) Refusal) → verdict r ≡ currents_of bytes volts →
    Replies bytes volts r
replies (Ok ticks) e = record { answer = ap tells e; ticks = ap ticks_or e }
replies (Err f) e = record { answer = ap tells e; ticks = ap ticks_or e }

-- from loading's result j and the reply r
module _ (bytes : List ℕ) {j : Result WorkedCard Refusal} (told : told_judged j ≡ tells (judge_of bytes)) where
  pub is_worked : {c : WorkedCard} → j ≡ Ok c → IsWorked c
  is_worked e = judged_is_worked bytes _ (judged_card _ told e)

  module _ (volts : List ℤ) {r : Result (List ℤ) Refusal} where
    pub replies_refused : {f : Refusal} → j ≡ Err f → r ≡ Err f → Replies bytes volts r
    unfolding currents_of
    replies_refused e q = replies r (rw (q, judged_refused (judge_of bytes) told e))

    pub replies_card : {c : WorkedCard} → j ≡ Ok c → verdict r ≡ at_volts c volts → Replies bytes volts r
    unfolding currents_of
    replies_card e q = replies r (rw (judged_card (judge_of bytes) told e) q)
