-- An issue number, where there is one.
use Rattle.std.specs.Prelude.{Option, Some, None, cond, ℕ, eqb}

-- 0, which is never given, is none
abbrev pub issue_in : ℕ → Option ℕ
issue_in n = cond (eqb n 0) None (Some n)
