-- One card and one buffer have one answer, and one way in which the buffer is left.
use Rattle.std.specs.Prelude.{◌≡◌, Result, Ok, Err, List, ℕ}
use Rattle.std.proofs.Common.{ap}
use Rattle.refusal.specs.Order.{Verdict, no, yes, tells, tells_one}
use Rattle.refusal.specs.Unique.{unique_by_equation}
use Rattle.refusal.specs.declared.Refusal.{Refusal}
use Rattle.line_write.specs.Answers.{Writes, answered, writing_of, told_answer}

answer_from : Verdict ℕ → Result ℕ Refusal
answer_from (no f) = Err f
answer_from (yes n) = Ok n

answer_from_lem : (a : Result ℕ Refusal) (v : Verdict ℕ) → told_answer a ≡ tells v → a ≡ answer_from v
unfolding answer_from
answer_from_lem (Ok n) v e = ap answer_from (tells_one (yes n) v e)
answer_from_lem (Err f) v e = ap answer_from (tells_one (no f) v e)

pub unique_write_line : (name rec line : List ℕ) (r r' : Result ℕ Refusal) (l l' : List ℕ) → Writes name rec line r l
    → Writes name rec line r' l' → (r ≡ r') × (l ≡ l')
unique_write_line name rec line r r' l l' p q =
    let v = answered (writing_of name rec line) in (
      unique_by_equation (answer_from_lem r v p.told) (answer_from_lem r' v q.told),
      unique_by_equation p.left q.left,
    )
