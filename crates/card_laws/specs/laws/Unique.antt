-- What an answer's telling leaves open: nothing. One record has one answer to loading.
use Rattle.std.specs.Prelude.{◌≡◌, Result, Ok, Err, List, ℕ}
use Rattle.std.proofs.Common.{sym, ap, ◌∙◌}
use Rattle.refusal.specs.declared.Refusal.{Refusal}
use Rattle.refusal.specs.Order.{Verdict, no, yes, tells, tells_one}
use Rattle.refusal.specs.Unique.{unique_by_equation}
use Rattle.card.specs.declared.WorkedCard.{WorkedCard}
use Rattle.card.specs.Judge.{judge_of, told_judged}

-- ---- an answer from its verdict
judged_from : Verdict WorkedCard → Result WorkedCard Refusal
judged_from (no f) = Err f
judged_from (yes c) = Ok c

judged_from_lem : (r : Result WorkedCard Refusal) (v : Verdict WorkedCard) → told_judged r ≡ tells v
    → r ≡ judged_from v
unfolding judged_from
judged_from_lem (Ok c) v e = ap judged_from (tells_one (yes c) v e)
judged_from_lem (Err f) v e = ap judged_from (tells_one (no f) v e)

-- ---- a verdict from its answer
pub judged_card : {r : Result WorkedCard Refusal} (v : Verdict WorkedCard) {c : WorkedCard} → told_judged r ≡ tells v
    → r ≡ Ok c → v ≡ yes c
judged_card v {c} e k = sym (tells_one (yes c) v (ap told_judged (sym k) ∙ e))

pub judged_refused : {r : Result WorkedCard Refusal} (v : Verdict WorkedCard) {f : Refusal} → told_judged r ≡ tells v
    → r ≡ Err f → v ≡ no f
judged_refused v {f} e k = sym (tells_one (no f) v (ap told_judged (sym k) ∙ e))

-- ---- one result
pub unique_judge : (s : List ℕ) (r r' : Result WorkedCard Refusal) → told_judged r ≡ tells (judge_of s)
    → told_judged r' ≡ tells (judge_of s) → r ≡ r'
unique_judge s r r' e e' = unique_by_equation (judged_from_lem r (judge_of s) e) (judged_from_lem r' (judge_of s) e')
