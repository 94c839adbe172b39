-- What reading a line answers, and what it leaves in the two lent buffers.
use Rattle.std.specs.Prelude.{◌≡◌, Result, Ok, Err, ◌||◌, List, ℕ, ◌*◌, ltb, length}
use Rattle.refusal.specs.declared.Refusal.{Refusal}
use Rattle.refusal.specs.declared.Refusal.TheVariants.{ShortOutput}
use Rattle.refusal.specs.Told.{told}
use Rattle.refusal.specs.Order.{Verdict, no, yes, refuse_if, and_then, Answer, refused, given, tells}
use Rattle.bytes_le.specs.Le.{word_bytes}
use Rattle.bytes_le.specs.Buffer.{over}
use Rattle.name.specs.Name.{name_length, padded}
use Rattle.clip.specs.Limits.{wide}
use Rattle.directory.specs.Format.{bytes_of_all}
use Rattle.line.specs.Line.{Model, line_of}

-- the bytes of a record of version 2
abbrev pub record_bytes : ℕ
record_bytes = word_bytes * wide

-- last, whether both buffers have room
abbrev pub room_for : List ℕ → List ℕ → Model → Verdict Model
room_for name rec m =
    refuse_if (ltb (length name) name_length || ltb (length rec) record_bytes) ShortOutput (yes m)

unfoldable pub reading_of : List ℕ → List ℕ → List ℕ → Verdict Model
reading_of line name rec = and_then (line_of line) (room_for name rec)

abbrev pub told_answer : Result (Unit {0}) Refusal → Answer (Unit {0})
told_answer (Ok t) = given tt
told_answer (Err f) = refused (told f)

abbrev pub answered : Verdict Model → Verdict (Unit {0})
answered (no f) = no f
answered (yes m) = yes tt

-- the name with its padding at the start of one buffer, the record at the start of the other; a refusal changes neither
abbrev pub name_left : Verdict Model → List ℕ → List ℕ
name_left (no f) old = old
name_left (yes m) old = over (padded m.name) old

abbrev pub record_left : Verdict Model → List ℕ → List ℕ
record_left (no f) old = old
record_left (yes m) old = over (bytes_of_all m.words) old

-- the answer r tells the verdict v, and the buffers name and rec are then name' and rec'
pub record Leaves (v : Verdict Model) (name rec : List ℕ) (r : Result (Unit {0}) Refusal) (name' rec' : List ℕ) : Type 0 where
  pub told : told_answer r ≡ tells (answered v)
  pub named : name' ≡ name_left v name
  pub worded : rec' ≡ record_left v rec

-- what reading a line leaves
abbrev pub Reads : List ℕ → List ℕ → List ℕ → Result (Unit {0}) Refusal → List ℕ → List ℕ → Type 0
Reads line name rec r name' rec' = Leaves (reading_of line name rec) name rec r name' rec'
