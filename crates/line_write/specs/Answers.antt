-- What writing a line answers, and what it leaves in the lent buffer.
use Rattle.std.specs.Prelude.{◌≡◌, Result, Ok, Err, List, ℕ, ltb, length}
use Rattle.refusal.specs.declared.Refusal.{Refusal}
use Rattle.refusal.specs.declared.Refusal.TheVariants.{ShortOutput}
use Rattle.refusal.specs.Told.{told}
use Rattle.refusal.specs.Order.{Verdict, no, yes, refuse_if, and_then, Answer, refused, given, tells}
use Rattle.bytes_le.specs.Buffer.{over}
use Rattle.line_write.specs.Text.{text_of}

-- last, whether the buffer has room
abbrev pub room_for : List ℕ → List ℕ → Verdict (List ℕ)
room_for line text = refuse_if (ltb (length line) (length text)) ShortOutput (yes text)

unfoldable pub writing_of : List ℕ → List ℕ → List ℕ → Verdict (List ℕ)
writing_of name rec line = and_then (text_of name rec) (room_for line)

abbrev pub told_answer : Result ℕ Refusal → Answer ℕ
told_answer (Ok n) = given n
told_answer (Err f) = refused (told f)

-- how many bytes were written
abbrev pub answered : Verdict (List ℕ) → Verdict ℕ
answered (no f) = no f
answered (yes text) = yes (length text)

-- the text at the start of the buffer; a refusal changes nothing
abbrev pub line_left : Verdict (List ℕ) → List ℕ → List ℕ
line_left (no f) old = old
line_left (yes text) old = over text old

-- the answer r tells the verdict v, and the buffer line is then line'
pub record Leaves (v : Verdict (List ℕ)) (line : List ℕ) (r : Result ℕ Refusal) (line' : List ℕ) : Type 0 where
  pub told : told_answer r ≡ tells (answered v)
  pub left : line' ≡ line_left v line

-- what writing a card leaves
abbrev pub Writes : List ℕ → List ℕ → List ℕ → Result ℕ Refusal → List ℕ → Type 0
Writes name rec line r line' = Leaves (writing_of name rec line) line r line'
