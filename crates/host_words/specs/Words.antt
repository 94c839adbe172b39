-- What an answer of the board is in plain numbers: the result of a call, and the numbers that it has, each put where a
-- number was; an answer that has none leaves that number.
use Rattle.std.specs.Prelude.{ℕ, get_or}
use Rattle.refusal.specs.declared.Refusal.{Refusal}
use Rattle.refusal.specs.Told.{number_of, values_of}
use Rattle.model.specs.declared.Answer.{Answer}
use Rattle.model.specs.declared.Answer.TheVariants.{Issue, Done, Node, Currents, Listed, Summed, Refused}

-- 0, or the number of what refuses
abbrev pub result_of : Answer → ℕ
result_of (Issue n) = 0
result_of Done = 0
result_of (Node v t) = 0
result_of Currents = 0
result_of (Listed n) = 0
result_of (Summed t c l) = 0
result_of (Refused f) = number_of f

-- the transistor that overloads, and its branch: the values that go with a refusal, where it has any
abbrev pub who_in : Refusal → ℕ → ℕ
who_in f was = get_or (values_of f) 0 was

abbrev pub branch_in : Refusal → ℕ → ℕ
branch_in f was = get_or (values_of f) 1 was

abbrev pub who_over : Answer → ℕ → ℕ
who_over (Issue n) was = was
who_over Done was = was
who_over (Node v t) was = was
who_over Currents was = was
who_over (Listed n) was = was
who_over (Summed t c l) was = was
who_over (Refused f) was = who_in f was

abbrev pub branch_over : Answer → ℕ → ℕ
branch_over (Issue n) was = was
branch_over Done was = was
branch_over (Node v t) was = was
branch_over Currents was = was
branch_over (Listed n) was = was
branch_over (Summed t c l) was = was
branch_over (Refused f) was = branch_in f was

-- an issue number
abbrev pub issue_over : Answer → ℕ → ℕ
issue_over (Issue n) was = n
issue_over Done was = was
issue_over (Node v t) was = was
issue_over Currents was = was
issue_over (Listed n) was = was
issue_over (Summed t c l) was = was
issue_over (Refused f) was = was
