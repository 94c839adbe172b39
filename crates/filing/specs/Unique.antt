-- One line and one file so far have one answer, and one way in which the buffers are left.
use Rattle.std.specs.Prelude.{◌≡◌, List, ℕ}
use Rattle.refusal.specs.Unique.{unique_by_equation}
use Rattle.std.specs.Prelude.{Result}
use Rattle.refusal.specs.declared.Refusal.{Refusal}
use Rattle.line.specs.Answers.{answered}
use Rattle.line.specs.Unique.{answer_from_lem}
use Rattle.filing.specs.Filed.{filing_of, Files}

pub unique_file_line : (line : List ℕ) (n : ℕ) (names records : List ℕ) (r r' : Result (Unit {0}) Refusal) (a a' b b' : List ℕ)
    → Files line n names records r a b → Files line n names records r' a' b' → (r ≡ r') × (a ≡ a') × (b ≡ b')
unique_file_line line n names records r r' a a' b b' p q =
    let v = answered (filing_of line names n) in (
      unique_by_equation (answer_from_lem r v p.told) (answer_from_lem r' v q.told),
      unique_by_equation p.named q.named,
      unique_by_equation p.worded q.worded,
    )
