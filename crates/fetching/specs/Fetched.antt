-- A card loaded from where it is written. A library hands out the record that it holds by the name; a line is read into
-- two buffers of zeros, and what stands in them is loaded, the name without its padding.
use Rattle.std.specs.Prelude.{List, ℕ, ◌+◌, replicate}
use Rattle.refusal.specs.Order.{Verdict, no, yes}
use Rattle.name.specs.Name.{name_length}
use Rattle.words.specs.Words.{part_of}
use Rattle.finding.specs.Answers.{locating}
use Rattle.line.specs.Line.{Model}
use Rattle.line.specs.Answers.{record_bytes, reading_of, name_left, record_left}
use Rattle.listed.specs.Listed.{unpadded}
use Rattle.model.specs.Board.{Board, Answered}
use Rattle.model.specs.Model.{refuse, loaded_of}

-- finding's refusals, then loading's
abbrev pub loaded_at : Board → List ℕ → List ℕ → Verdict (ℕ × ℕ) → Answered
loaded_at b name library (no f) = refuse b f
loaded_at b name library (yes p) = loaded_of b name (part_of library p.0 (p.0 + p.1))

unfoldable pub name_loaded_of : Board → List ℕ → List ℕ → Answered
name_loaded_of b name library = loaded_at b name library (locating library name)

-- the two buffers as they are before
abbrev pub no_name : List ℕ
no_name = replicate name_length 0

abbrev pub no_record : List ℕ
no_record = replicate record_bytes 0

-- reading's refusals, then loading's
abbrev pub loaded_by : Board → Verdict Model → Answered
loaded_by b (no f) = refuse b f
loaded_by b (yes m) = loaded_of b (unpadded (name_left (yes m) no_name)) (record_left (yes m) no_record)

unfoldable pub line_loaded_of : Board → List ℕ → Answered
line_loaded_of b line = loaded_by b (reading_of line no_name no_record)
