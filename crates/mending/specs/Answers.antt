-- What mending answers, the refusals in their order, and what it leaves in the lent buffer.
use Rattle.std.specs.Prelude.{◌≡◌, Result, Ok, Err, List, ℕ, ltb, length}
use Rattle.refusal.specs.declared.Refusal.{Refusal}
use Rattle.refusal.specs.declared.Refusal.TheVariants.{ShortOutput}
use Rattle.refusal.specs.Order.{Verdict, no, yes, refuse_if, and_then, Answer, tells}
use Rattle.directory.specs.Judged.{library_judged}
use Rattle.library.specs.Answers.{left}
use Rattle.mending.specs.Mended.{mended_of, count_of}

abbrev pub verdict_mended : Result ℕ Refusal → Verdict ℕ
verdict_mended (Ok n) = yes n
verdict_mended (Err f) = no f

abbrev pub told_mended : Result ℕ Refusal → Answer ℕ
told_mended r = tells (verdict_mended r)

-- 1, 2, 3, then 5 where the output of a bytes is shorter than the library; else how many cards are set
unfoldable pub mending : List ℕ → ℕ → Verdict ℕ
mending s a = and_then (library_judged s) (λ (p : ℕ × ℕ). refuse_if (ltb a (length s)) ShortOutput (yes (count_of s)))

-- mending s into o: the answer r, and what stands in the buffer after it
pub record Mends (s o : List ℕ) (r : Result ℕ Refusal) (o' : List ℕ) : Type 0 where
  pub answer : told_mended r ≡ tells (mending s (length o))
  pub output : o' ≡ left (mending s (length o)) (mended_of s) o
