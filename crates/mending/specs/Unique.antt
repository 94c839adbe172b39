-- One input has one result: any two answers and contents of the lent buffer that the contract permits are equal.
use Rattle.std.specs.Prelude.{◌≡◌, Result, Ok, Err, List, ℕ, length}
use Rattle.std.proofs.Common.{ap}
use Rattle.refusal.specs.Unique.{unique_by_equation}
use Rattle.refusal.specs.Order.{Verdict, no, yes, tells, tells_one}
use Rattle.refusal.specs.declared.Refusal.{Refusal}
use Rattle.mending.specs.Answers.{told_mended, mending, Mends}

-- the answer that a verdict is: one whatever tells it
abbrev pub as_mending : Verdict ℕ → Result ℕ Refusal
as_mending (yes n) = Ok n
as_mending (no f) = Err f

pub mending_told : (r : Result ℕ Refusal) (v : Verdict ℕ) → told_mended r ≡ tells v → r ≡ as_mending v
mending_told (Ok n) v e = ap as_mending (tells_one (yes n) v e)
mending_told (Err f) v e = ap as_mending (tells_one (no f) v e)

pub unique_mend : {s o : List ℕ} {r r' : Result ℕ Refusal} {p p' : List ℕ}
    → Mends s o r p → Mends s o r' p' → (r ≡ r') × (p ≡ p')
unique_mend {s} {o} {r} {r'} a b =
    let v = mending s (length o) in (
      unique_by_equation (mending_told r v a.answer) (mending_told r' v b.answer),
      unique_by_equation a.output b.output,
    )
