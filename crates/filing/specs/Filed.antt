-- The card of a joined model line, filed after n others: what is answered, and what the two lent buffers then hold.
use Rattle.std.specs.Prelude.{◌≡◌, List, ◌++◌, ℕ, ◌*◌, leb, ltb, length, take, drop}
use Rattle.refusal.specs.declared.Refusal.TheVariants.{Malformed, NameTwice, BadLine}
use Rattle.refusal.specs.Order.{Verdict, no, yes, refuse_if, and_then, tells}
use Rattle.bytes_le.specs.Buffer.{over}
use Rattle.name.specs.Name.{name_length, padded}
use Rattle.roll.specs.Directory.{names_in, among}
use Rattle.directory.specs.Format.{most_cards, bytes_of_all}
use Rattle.line.specs.Line.{Model, line_of}
use Rattle.line.specs.Answers.{record_bytes}
use Rattle.std.specs.Prelude.{Result}
use Rattle.refusal.specs.declared.Refusal.{Refusal}
use Rattle.line.specs.Answers.{told_answer, answered}
use Rattle.trimming.specs.Trimmed.{trimmed}
use Rattle.joining.specs.Lines.{longest_line}

-- the bytes of the most names, and of the most records
abbrev pub names_room : ℕ
names_room = name_length * most_cards

abbrev pub records_room : ℕ
records_room = record_bytes * most_cards

-- the names of the first n cards
abbrev pub filed_names : List ℕ → ℕ → List (List ℕ)
filed_names names n = names_in (take (name_length * n) names)

-- 3 where the name is one of theirs, then 1 where there are as many cards as a library takes
abbrev pub besides : List ℕ → ℕ → Model → Verdict Model
besides names n m =
    refuse_if (among (padded m.name) (filed_names names n)) NameTwice
    (refuse_if (leb most_cards n) Malformed (yes m))

-- a line that is too long is none; one that is not is read without the spaces at its ends
unfoldable pub filing_of : List ℕ → List ℕ → ℕ → Verdict Model
filing_of line names n =
    refuse_if (ltb longest_line (length line)) BadLine (and_then (line_of (trimmed line)) (besides names n))

-- new, from a place on, and everything else as it was
abbrev pub over_at : ℕ → List ℕ → List ℕ → List ℕ
over_at at new old = take at old ++ over new (drop at old)

-- the name and the record after those of n cards; a refusal changes neither buffer
abbrev pub names_left : Verdict Model → ℕ → List ℕ → List ℕ
names_left (no f) n old = old
names_left (yes m) n old = over_at (name_length * n) (padded m.name) old

abbrev pub records_left : Verdict Model → ℕ → List ℕ → List ℕ
records_left (no f) n old = old
records_left (yes m) n old = over_at (record_bytes * n) (bytes_of_all m.words) old

-- the answer r tells the verdict v, and the buffers names and records are then names' and records'
pub record Leaves (v : Verdict Model) (n : ℕ) (names records : List ℕ) (r : Result (Unit {0}) Refusal)
    (names' records' : List ℕ) : Type 0 where
  pub told : told_answer r ≡ tells (answered v)
  pub named : names' ≡ names_left v n names
  pub worded : records' ≡ records_left v n records

-- what filing a line leaves
abbrev pub Files : List ℕ → ℕ → List ℕ → List ℕ → Result (Unit {0}) Refusal → List ℕ → List ℕ → Type 0
Files line n names records r names' records' = Leaves (filing_of line names n) n names records r names' records'
