-- One line and one pair of buffers have one answer, and one way in which the buffers are left.
use Rattle.std.specs.Prelude.{◌≡◌, Result, Ok, Err, List, ℕ}
use Rattle.std.proofs.Common.{ap}
use Rattle.refusal.specs.Order.{Verdict, no, yes, tells, tells_one}
use Rattle.refusal.specs.Unique.{unique_by_equation}
use Rattle.refusal.specs.declared.Refusal.{Refusal}
use Rattle.line.specs.Answers.{Reads, answered, reading_of, told_answer}

abbrev pub answer_from : Verdict (Unit {0}) → Result (Unit {0}) Refusal
answer_from (no f) = Err f
answer_from (yes t) = Ok tt

pub answer_from_lem : (a : Result (Unit {0}) Refusal) (v : Verdict (Unit {0})) → told_answer a ≡ tells v → a ≡ answer_from v
answer_from_lem (Ok t) v e = ap answer_from (tells_one (yes tt) v e)
answer_from_lem (Err f) v e = ap answer_from (tells_one (no f) v e)

pub unique_read_line : (line name rec : List ℕ) (r r' : Result (Unit {0}) Refusal) (n n' w w' : List ℕ)
    → Reads line name rec r n w → Reads line name rec r' n' w' → (r ≡ r') × (n ≡ n') × (w ≡ w')
unique_read_line line name rec r r' n n' w w' p q =
    let v = answered (reading_of line name rec) in (
      unique_by_equation (answer_from_lem r v p.told) (answer_from_lem r' v q.told),
      unique_by_equation p.named q.named,
      unique_by_equation p.worded q.worded,
    )
